-- Words tell their tokens.
use Rattle.std.proofs.Common.{◌≡◌, ℕ, List, [], ◌∷◌, slice_get, Option, None, Some, refl, sym, ap, ◌∙◌, subst}
use Rattle.uc_lexer.specs.declared.token.Token.{Token}
use Rattle.uc_lexer.specs.declared.token.TokenKind.{TokenKind}
use Rattle.uc_lexer.specs.declared.token.TokenKind.TheVariants as token
use Rattle.uc_syntax.specs.Mentions.{OfName}
use Rattle.uc_grammar.specs.declared.word.Kind.{Kind}
use Rattle.uc_grammar.specs.declared.word.Kind.TheVariants as word
use Rattle.uc_grammar.specs.declared.word.Word.{Word}
use Rattle.uc_words.specs.Fixed.{fixed_kind}
use Rattle.uc_words.specs.Mentions.{kind_mentions}
use Rattle.uc_words.specs.Words.{bytes_of, IsNamed, IsKind, IsWord, AreWords}
use Rattle.uc_words.specs.Laws.{IsSameToken, AreSameTokens}
use Rattle.uc_words.proofs.Mentioned.{of_names, name_mentions}

-- the kind of a word's token
abbrev token_kind : Kind → TokenKind
token_kind (word.Number value) = token.Number value
token_kind (word.BvType width) = token.BvType width
token_kind (word.BvLit value width) = token.BvLit value width
token_kind word.KwModule = token.KwModule
token_kind word.KwType = token.KwType
token_kind word.KwVar = token.KwVar
token_kind word.KwInput = token.KwInput
token_kind word.KwOutput = token.KwOutput
token_kind word.KwConst = token.KwConst
token_kind word.KwFunction = token.KwFunction
token_kind word.KwDefine = token.KwDefine
token_kind word.KwProcedure = token.KwProcedure
token_kind word.KwReturns = token.KwReturns
token_kind word.KwRequires = token.KwRequires
token_kind word.KwEnsures = token.KwEnsures
token_kind word.KwModifies = token.KwModifies
token_kind word.KwInstance = token.KwInstance
token_kind word.KwInit = token.KwInit
token_kind word.KwNext = token.KwNext
token_kind word.KwInvariant = token.KwInvariant
token_kind word.KwAxiom = token.KwAxiom
token_kind word.KwHyperinvariant = token.KwHyperinvariant
token_kind word.KwHyperaxiom = token.KwHyperaxiom
token_kind word.KwControl = token.KwControl
token_kind word.KwBoolean = token.KwBoolean
token_kind word.KwInteger = token.KwInteger
token_kind word.KwEnum = token.KwEnum
token_kind word.KwRecord = token.KwRecord
token_kind word.KwIf = token.KwIf
token_kind word.KwElse = token.KwElse
token_kind word.KwThen = token.KwThen
token_kind word.KwCase = token.KwCase
token_kind word.KwDefault = token.KwDefault
token_kind word.KwEsac = token.KwEsac
token_kind word.KwFor = token.KwFor
token_kind word.KwIn = token.KwIn
token_kind word.KwCall = token.KwCall
token_kind word.KwSkip = token.KwSkip
token_kind word.KwAssert = token.KwAssert
token_kind word.KwAssume = token.KwAssume
token_kind word.KwHavoc = token.KwHavoc
token_kind word.KwOld = token.KwOld
token_kind word.KwTrue = token.KwTrue
token_kind word.KwFalse = token.KwFalse
token_kind word.KwForall = token.KwForall
token_kind word.KwExists = token.KwExists
token_kind word.KwWhile = token.KwWhile
token_kind word.LeftParen = token.LeftParen
token_kind word.RightParen = token.RightParen
token_kind word.LeftBrace = token.LeftBrace
token_kind word.RightBrace = token.RightBrace
token_kind word.LeftBracket = token.LeftBracket
token_kind word.RightBracket = token.RightBracket
token_kind word.Comma = token.Comma
token_kind word.Semicolon = token.Semicolon
token_kind word.Colon = token.Colon
token_kind word.Dot = token.Dot
token_kind word.Prime = token.Prime
token_kind word.Assign = token.Assign
token_kind word.Equal = token.Equal
token_kind word.NotEqual = token.NotEqual
token_kind word.Iff = token.Iff
token_kind word.Implies = token.Implies
token_kind word.And = token.And
token_kind word.Or = token.Or
token_kind word.Not = token.Not
token_kind word.Less = token.Less
token_kind word.LessEqual = token.LessEqual
token_kind word.Greater = token.Greater
token_kind word.GreaterEqual = token.GreaterEqual
token_kind word.LessUnsigned = token.LessUnsigned
token_kind word.LessEqualUnsigned = token.LessEqualUnsigned
token_kind word.GreaterUnsigned = token.GreaterUnsigned
token_kind word.GreaterEqualUnsigned = token.GreaterEqualUnsigned
token_kind word.Plus = token.Plus
token_kind word.Minus = token.Minus
token_kind word.Star = token.Star
token_kind word.Concat = token.Concat
token_kind word.Ampersand = token.Ampersand
token_kind word.Bar = token.Bar
token_kind word.Caret = token.Caret
token_kind word.Tilde = token.Tilde
token_kind word.Arrow = token.Arrow
token_kind name = token.Name

abbrev if_fixed : Option Kind → TokenKind
if_fixed None = token.Name
if_fixed (Some kind) = token_kind kind

told : (kind : TokenKind) → if_fixed (fixed_kind kind) ≡ kind
told token.Name = refl
told (token.BvType width) = refl
told (token.Number value) = refl
told (token.BvLit value width) = refl
told token.KwModule = refl
told token.KwType = refl
told token.KwVar = refl
told token.KwInput = refl
told token.KwOutput = refl
told token.KwConst = refl
told token.KwFunction = refl
told token.KwDefine = refl
told token.KwProcedure = refl
told token.KwReturns = refl
told token.KwRequires = refl
told token.KwEnsures = refl
told token.KwModifies = refl
told token.KwInstance = refl
told token.KwInit = refl
told token.KwNext = refl
told token.KwInvariant = refl
told token.KwAxiom = refl
told token.KwHyperinvariant = refl
told token.KwHyperaxiom = refl
told token.KwControl = refl
told token.KwBoolean = refl
told token.KwInteger = refl
told token.KwEnum = refl
told token.KwRecord = refl
told token.KwIf = refl
told token.KwElse = refl
told token.KwThen = refl
told token.KwCase = refl
told token.KwDefault = refl
told token.KwEsac = refl
told token.KwFor = refl
told token.KwIn = refl
told token.KwCall = refl
told token.KwSkip = refl
told token.KwAssert = refl
told token.KwAssume = refl
told token.KwHavoc = refl
told token.KwOld = refl
told token.KwTrue = refl
told token.KwFalse = refl
told token.KwForall = refl
told token.KwExists = refl
told token.KwWhile = refl
told token.LeftParen = refl
told token.RightParen = refl
told token.LeftBrace = refl
told token.RightBrace = refl
told token.LeftBracket = refl
told token.RightBracket = refl
told token.Comma = refl
told token.Semicolon = refl
told token.Colon = refl
told token.Dot = refl
told token.Prime = refl
told token.Assign = refl
told token.Equal = refl
told token.NotEqual = refl
told token.Iff = refl
told token.Implies = refl
told token.And = refl
told token.Or = refl
told token.Not = refl
told token.Less = refl
told token.LessEqual = refl
told token.Greater = refl
told token.GreaterEqual = refl
told token.LessUnsigned = refl
told token.LessEqualUnsigned = refl
told token.GreaterUnsigned = refl
told token.GreaterEqualUnsigned = refl
told token.Plus = refl
told token.Minus = refl
told token.Star = refl
told token.Concat = refl
told token.Ampersand = refl
told token.Bar = refl
told token.Caret = refl
told token.Tilde = refl
told token.Arrow = refl

kind_told : (names : List (List ℕ)) (bytes : List ℕ) (kind : TokenKind) (fixed : Option Kind) (its : Kind) → fixed_kind kind ≡ fixed → IsKind names bytes fixed its → token_kind its ≡ kind
kind_told names bytes kind (Some fixed) its e is = ap token_kind is ∙ sym (ap if_fixed e) ∙ told kind
kind_told names bytes kind None its e is =
    ap token_kind is.kind_is ∙ of_names token_kind (λ n. token.Name) bytes is.number refl (λ n. refl, (λ n. refl, (λ n. refl, (λ n. refl, (λ n. refl, (λ n. refl, (λ n. refl, (λ n. refl, (λ n. refl, (λ n. refl, (λ n. refl, (λ n. refl, tt)))))))))))) ∙ sym (ap if_fixed e) ∙ told kind

same_name : (names : List (List ℕ)) (bytes other : List ℕ) (kind : Kind) → IsNamed names bytes kind → IsNamed names other kind → bytes ≡ other
same_name names bytes other kind a b =
    let mentions : OfName a.number ∷ [] ≡ OfName b.number ∷ [] =
    sym (name_mentions bytes a.number) ∙ ap kind_mentions (sym a.kind_is ∙ b.kind_is) ∙ name_mentions other b.number in
    let numbers : a.number ≡ b.number = cc in
    let texts : Some bytes ≡ Some other = sym a.stands ∙ ap (slice_get names) numbers ∙ b.stands in
    cc

same_token : (names : List (List ℕ)) (text other : List ℕ) (t u : Token) (w : Word) → IsWord names text t w → IsWord names other u w → IsSameToken text t other u
same_token names text other t u w a b =
    let kinds : t.kind ≡ u.kind = sym (kind_told names (bytes_of text t) t.kind (fixed_kind t.kind) w.kind refl a.kind) ∙ kind_told names (bytes_of other u) u.kind (fixed_kind u.kind) w.kind refl b.kind in
    record {
      kind = kinds;
      place = sym a.place ∙ b.place;
      name = λ is.
          same_name names (bytes_of text t) (bytes_of other u) w.kind
          (subst (λ k. IsKind names (bytes_of text t) (fixed_kind k) w.kind) is a.kind)
          (subst (λ k. IsKind names (bytes_of other u) (fixed_kind k) w.kind) (sym kinds ∙ is) b.kind);
    }

pub words_tell_tokens : (names : List (List ℕ)) (text other : List ℕ) (tokens others : List Token) (words : List Word) → AreWords names text tokens words → AreWords names other others words → AreSameTokens text tokens other others
words_tell_tokens names text other [] [] words a b = tt
words_tell_tokens names text other [] (u ∷ us) [] a b = absurd b
words_tell_tokens names text other [] (u ∷ us) (w ∷ ws) a b = absurd a
words_tell_tokens names text other (t ∷ ts) us [] a b = absurd a
words_tell_tokens names text other (t ∷ ts) [] (w ∷ ws) a b = absurd b
words_tell_tokens names text other (t ∷ ts) (u ∷ us) (w ∷ ws) a b =
    (same_token names text other t u w a.0 b.0, words_tell_tokens names text other ts us ws a.1 b.1)
