-- What follows of the words of a text.
use Rattle.std.specs.Prelude.{◌≡◌, ℕ, nat_lt, List, [], ◌∷◌, if◌then◌else◌}
use Rattle.uc_lexer.specs.declared.token.Token.{Token}
use Rattle.uc_lexer.specs.declared.token.TokenKind.TheVariants.{Name}
use Rattle.uc_lexer.specs.Text.{Tokens}
use Rattle.uc_syntax.specs.Numbering.{AreDistinct, KeepNumbers}
use Rattle.uc_grammar.specs.declared.word.Word.{Word}
use Rattle.uc_grammar.specs.declared.word.Kind.{Kind}
use Rattle.uc_grammar.specs.Code.{code_of, name_in}
use Rattle.uc_syntax.specs.Mentions.{OfName}
use Rattle.uc_words.specs.Mentions.{kind_mentions}
use Rattle.uc_words.specs.Words.{AreWithin, AreWords, IsText, bytes_of}

-- the tokens of a text are in it
abbrev pub TokensAreWithin : Type 0
TokensAreWithin = (file : ℕ) (text : List ℕ) (tokens : List Token) → Tokens file text tokens → AreWithin text tokens

-- a text has one list of words, and so have tokens, under names none of which stands twice
abbrev pub TokensHaveOneList : Type 0
TokensHaveOneList = (names : List (List ℕ)) (text : List ℕ) (tokens : List Token) (words others : List Word) → AreDistinct names → AreWords names text tokens words → AreWords names text tokens others → words ≡ others

abbrev pub TextHasOneList : Type 0
TextHasOneList = (names : List (List ℕ)) (file : ℕ) (text : List ℕ) (words others : List Word) → AreDistinct names → IsText names file text words → IsText names file text others → words ≡ others

-- words stay the words of their tokens and of their text as names are added
abbrev pub StayWords : Type 0
StayWords = (before after : List (List ℕ)) (text : List ℕ) (tokens : List Token) (words : List Word) → KeepNumbers before after → AreWords before text tokens words → AreWords after text tokens words

abbrev pub StaysText : Type 0
StaysText = (before after : List (List ℕ)) (file : ℕ) (text : List ℕ) (words : List Word) → KeepNumbers before after → IsText before file text words → IsText after file text words

-- a word mentions a name where the code of its kind is below 9, and the number is the one that the grammar takes for the name
abbrev pub NamesAreMentioned : Type 0
NamesAreMentioned = (kind : Kind) → kind_mentions kind ≡ (if nat_lt (code_of kind) 9 then OfName (name_in kind) ∷ [] else [])

-- these are one token in both texts: of one kind and place, and a name of one spelling
pub record IsSameToken (text : List ℕ) (token : Token) (other : List ℕ) (its : Token) : Type 0 where
  pub kind : token.kind ≡ its.kind
  pub place : token.place ≡ its.place
  pub name : token.kind ≡ Name → bytes_of text token ≡ bytes_of other its

-- and so one by one
abbrev pub AreSameTokens : List ℕ → List Token → List ℕ → List Token → Type 0
AreSameTokens text [] other [] = Unit {0}
AreSameTokens text [] other (its ∷ others) = ⊥
AreSameTokens text (token ∷ tokens) other [] = ⊥
AreSameTokens text (token ∷ tokens) other (its ∷ others) = IsSameToken text token other its × AreSameTokens text tokens other others

-- words tell their tokens: the same words under the same names are the same tokens
abbrev pub WordsTellTokens : Type 0
WordsTellTokens = (names : List (List ℕ)) (text other : List ℕ) (tokens others : List Token) (words : List Word) → AreWords names text tokens words → AreWords names other others words → AreSameTokens text tokens other others
