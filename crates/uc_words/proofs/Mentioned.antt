-- What the kinds of words mention.
use Rattle.std.proofs.Common.{◌≡◌, ℕ, Bool, true, false, if◌then◌else◌, List, [], ◌∷◌, Option, None, Some, refl, sym, ap, ◌∙◌}
use Rattle.std.specs.Str.{bytes_eq}
use Rattle.uc_lexer.specs.declared.token.TokenKind.{TokenKind}
use Rattle.uc_lexer.specs.declared.token.TokenKind.TheVariants.{Name, BvType, Number, BvLit, KwModule, KwType, KwVar, KwInput, KwOutput, KwConst, KwFunction, KwDefine, KwProcedure, KwReturns, KwRequires, KwEnsures, KwModifies, KwInstance, KwInit, KwNext, KwInvariant, KwAxiom, KwHyperinvariant, KwHyperaxiom, KwControl, KwBoolean, KwInteger, KwEnum, KwRecord, KwIf, KwElse, KwThen, KwCase, KwDefault, KwEsac, KwFor, KwIn, KwCall, KwSkip, KwAssert, KwAssume, KwHavoc, KwOld, KwTrue, KwFalse, KwForall, KwExists, KwWhile, LeftParen, RightParen, LeftBrace, RightBrace, LeftBracket, RightBracket, Comma, Semicolon, Colon, Dot, Prime, Assign, Equal, NotEqual, Iff, Implies, And, Or, Not, Less, LessEqual, Greater, GreaterEqual, LessUnsigned, LessEqualUnsigned, GreaterUnsigned, GreaterEqualUnsigned, Plus, Minus, Star, Concat, Ampersand, Bar, Caret, Tilde, Arrow}
use Rattle.uc_syntax.specs.Mentions.{Mention, OfName}
use Rattle.uc_grammar.specs.declared.word.Kind.{Kind}
use Rattle.uc_grammar.specs.declared.word.Kind.TheVariants.{Name as Named}
use Rattle.uc_words.specs.Fixed.{fixed_kind}
use Rattle.uc_words.specs.Known.{Entry, known_names, kind_in}
use Rattle.uc_words.specs.Mentions.{kind_mentions}

-- what holds of each entry's kind holds of each name's word
abbrev pub EachEntry : {A : Type 0} → (Kind → A) → (ℕ → A) → List Entry → Type 0
EachEntry f g [] = Unit {0}
EachEntry f g (e ∷ es) = ((n : ℕ) → f (e.1 n) ≡ g n) × EachEntry f g es

in_table : {A : Type 0} (f : Kind → A) (g : ℕ → A) (es : List Entry) (text : List ℕ) (n : ℕ) → f (Named n) ≡ g n → EachEntry f g es → f (kind_in es text n) ≡ g n
in_table f g [] text n plain all = plain
in_table f g (e ∷ es) text n plain all = by (bytes_eq text e.0) (in_table f g es text n plain all.1)
  where
    by : (b : Bool) → f (kind_in es text n) ≡ g n → f (if b then e.1 n else kind_in es text n) ≡ g n
    by true rest = all.0 n
    by false rest = rest

pub of_names : {A : Type 0} (f : Kind → A) (g : ℕ → A) (text : List ℕ) (n : ℕ) → f (Named n) ≡ g n → EachEntry f g known_names → f (kind_in known_names text n) ≡ g n
of_names f g text n = in_table f g known_names text n

-- a name's word mentions its number alone
pub name_mentions : (text : List ℕ) (n : ℕ) → kind_mentions (kind_in known_names text n) ≡ OfName n ∷ []
name_mentions text n = of_names kind_mentions (λ m. OfName m ∷ []) text n refl (λ n. refl, (λ n. refl, (λ n. refl, (λ n. refl, (λ n. refl, (λ n. refl, (λ n. refl, (λ n. refl, (λ n. refl, (λ n. refl, (λ n. refl, (λ n. refl, tt))))))))))))

abbrev if_fixed : Option Kind → List Mention
if_fixed None = []
if_fixed (Some kind) = kind_mentions kind

no_name : (kind : TokenKind) → if_fixed (fixed_kind kind) ≡ []
no_name Name = refl
no_name (BvType width) = refl
no_name (Number value) = refl
no_name (BvLit value width) = refl
no_name KwModule = refl
no_name KwType = refl
no_name KwVar = refl
no_name KwInput = refl
no_name KwOutput = refl
no_name KwConst = refl
no_name KwFunction = refl
no_name KwDefine = refl
no_name KwProcedure = refl
no_name KwReturns = refl
no_name KwRequires = refl
no_name KwEnsures = refl
no_name KwModifies = refl
no_name KwInstance = refl
no_name KwInit = refl
no_name KwNext = refl
no_name KwInvariant = refl
no_name KwAxiom = refl
no_name KwHyperinvariant = refl
no_name KwHyperaxiom = refl
no_name KwControl = refl
no_name KwBoolean = refl
no_name KwInteger = refl
no_name KwEnum = refl
no_name KwRecord = refl
no_name KwIf = refl
no_name KwElse = refl
no_name KwThen = refl
no_name KwCase = refl
no_name KwDefault = refl
no_name KwEsac = refl
no_name KwFor = refl
no_name KwIn = refl
no_name KwCall = refl
no_name KwSkip = refl
no_name KwAssert = refl
no_name KwAssume = refl
no_name KwHavoc = refl
no_name KwOld = refl
no_name KwTrue = refl
no_name KwFalse = refl
no_name KwForall = refl
no_name KwExists = refl
no_name KwWhile = refl
no_name LeftParen = refl
no_name RightParen = refl
no_name LeftBrace = refl
no_name RightBrace = refl
no_name LeftBracket = refl
no_name RightBracket = refl
no_name Comma = refl
no_name Semicolon = refl
no_name Colon = refl
no_name Dot = refl
no_name Prime = refl
no_name Assign = refl
no_name Equal = refl
no_name NotEqual = refl
no_name Iff = refl
no_name Implies = refl
no_name And = refl
no_name Or = refl
no_name Not = refl
no_name Less = refl
no_name LessEqual = refl
no_name Greater = refl
no_name GreaterEqual = refl
no_name LessUnsigned = refl
no_name LessEqualUnsigned = refl
no_name GreaterUnsigned = refl
no_name GreaterEqualUnsigned = refl
no_name Plus = refl
no_name Minus = refl
no_name Star = refl
no_name Concat = refl
no_name Ampersand = refl
no_name Bar = refl
no_name Caret = refl
no_name Tilde = refl
no_name Arrow = refl

-- and any other word no name
pub fixed_mentions : (kind : TokenKind) (fixed : Kind) → fixed_kind kind ≡ Some fixed → kind_mentions fixed ≡ []
fixed_mentions kind fixed e = sym (ap if_fixed e) ∙ no_name kind
