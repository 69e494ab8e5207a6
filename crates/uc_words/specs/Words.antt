-- The words of a text: its tokens, where each name has a number.
use Rattle.std.specs.Prelude.{◌≡◌, ℕ, ◌-◌, ◌≤◌, List, [], ◌∷◌, length, take, drop, slice_get, fold, Option, None, Some}
use Rattle.uc_lexer.specs.declared.token.Token.{Token}
use Rattle.uc_lexer.specs.Text.{Tokens}
use Rattle.uc_syntax.specs.Numbering.{with_text}
use Rattle.uc_grammar.specs.declared.word.Kind.{Kind}
use Rattle.uc_grammar.specs.declared.word.Word.{Word}
use Rattle.uc_words.specs.Fixed.{fixed_kind}
use Rattle.uc_words.specs.Known.{known_names, kind_in}

-- the bytes of a token
abbrev pub bytes_of : List ℕ → Token → List ℕ
bytes_of text token = take (token.end - token.start) (drop token.start text)

-- each token is in the text
abbrev pub AreWithin : List ℕ → List Token → Type 0
AreWithin text [] = Unit {0}
AreWithin text (token ∷ tokens) = (token.start ≤ token.end) × (token.end ≤ length text) × AreWithin text tokens

-- a name's word has the number at which its text stands among the names
pub record IsNamed (names : List (List ℕ)) (bytes : List ℕ) (kind : Kind) : Type 0 where
  pub number : ℕ
  pub stands : slice_get names number ≡ Some bytes
  pub kind_is : kind ≡ kind_in known_names bytes number

-- the kind of a word, given that of its token if it has one whatever the text
abbrev pub IsKind : List (List ℕ) → List ℕ → Option Kind → Kind → Type 0
IsKind names bytes (Some fixed) kind = kind ≡ fixed
IsKind names bytes None kind = IsNamed names bytes kind

-- the word is this token of the text
pub record IsWord (names : List (List ℕ)) (text : List ℕ) (token : Token) (word : Word) : Type 0 where
  pub place : word.place ≡ token.place
  pub kind : IsKind names (bytes_of text token) (fixed_kind token.kind) word.kind

-- the words are these tokens of the text, one by one
abbrev pub AreWords : List (List ℕ) → List ℕ → List Token → List Word → Type 0
AreWords names text [] [] = Unit {0}
AreWords names text [] (word ∷ words) = ⊥
AreWords names text (token ∷ tokens) [] = ⊥
AreWords names text (token ∷ tokens) (word ∷ words) = IsWord names text token word × AreWords names text tokens words

-- the words are the tokens of the text of this file
pub record IsText (names : List (List ℕ)) (file : ℕ) (text : List ℕ) (words : List Word) : Type 0 where
  pub tokens : List Token
  pub are_tokens : Tokens file text tokens
  pub are_words : AreWords names text tokens words

-- the names after a token: the text of a name gets a number
abbrev pub with_kind : Option Kind → List (List ℕ) → List ℕ → List (List ℕ)
with_kind (Some fixed) names bytes = names
with_kind None names bytes = with_text names bytes

abbrev pub with_token : List ℕ → List (List ℕ) → Token → List (List ℕ)
with_token text names token = with_kind (fixed_kind token.kind) names (bytes_of text token)

-- the names after these tokens, in order
abbrev pub with_tokens : List (List ℕ) → List ℕ → List Token → List (List ℕ)
with_tokens names text tokens = fold (with_token text) names tokens

-- the names after some of these tokens, from the first on
abbrev pub HasFrontOf : List (List ℕ) → List ℕ → List Token → List (List ℕ) → Type 0
HasFrontOf before text tokens after = (n : ℕ) × (after ≡ with_tokens before text (take n tokens))
