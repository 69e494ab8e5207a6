-- The modules whose names and literals have spellings.
use Rattle.std.specs.Prelude.{◌≡◌, ℕ, ◌^◌, ◌<◌, true, false, List, [], ◌∷◌, slice_get, Some}
use Rattle.uc_lexer.specs.declared.token.TokenKind.TheVariants as token
use Rattle.uc_lexer.specs.Spelling.{Spells}
use Rattle.uc_syntax.specs.Numbering.{has_text}
use Rattle.uc_syntax.specs.declared.declaration.Module.{Module}
use Rattle.uc_grammar.specs.declared.word.Kind.{Kind}
use Rattle.uc_grammar.specs.declared.word.Kind.TheVariants.{Name, Number, BvType, BvLit}
use Rattle.uc_words.specs.Known.{known_names, kind_in}
use Rattle.uc_print_laws.specs.Piece.{Piece, name, applied, fixed, is_name, is_on_bits}
use Rattle.uc_print_laws.specs.Declarations.{modules_words}
use Rattle.uc_print_laws.specs.Text.{name_text, kind_text}

-- The number is that of a name, and its text is an identifier: a letter or `_`, then letters, digits and `_`, and neither a keyword
-- nor a type of bits.
pub record IsSpelledName (names : List (List ℕ)) (n : ℕ) : Type 0 where
  pub text : List ℕ
  pub stands : slice_get names n ≡ Some text
  pub spelled : Spells text token.Name

-- What is applied by its name is no function on bits, which the grammar knows by its text.
pub record IsSpelledApplied (names : List (List ℕ)) (n : ℕ) : Type 0 where
  pub is_name : IsSpelledName names n
  pub is_own : is_on_bits (kind_in known_names (name_text names n) n) ≡ false

-- The numbers of literals and of types of bits have limits. A name of the design is no such word.
abbrev pub IsSpelledWord : Kind → Type 0
IsSpelledWord (Number value) = value < 2 ^ 128
IsSpelledWord (BvType width) = width < 2 ^ 32
IsSpelledWord (BvLit value width) = (value < 2 ^ 128) × (width < 2 ^ 32)
IsSpelledWord (Name n) = ⊥
IsSpelledWord _ = Unit {0}

abbrev pub HasSpelling : List (List ℕ) → Piece → Type 0
HasSpelling names (name n) = IsSpelledName names n
HasSpelling names (applied n) = IsSpelledApplied names n
HasSpelling names (fixed k) = IsSpelledWord k

-- each of these words has a spelling under these names
abbrev pub HaveSpellings : List (List ℕ) → List Piece → Type 0
HaveSpellings names [] = Unit {0}
HaveSpellings names (p ∷ ps) = HasSpelling names p × HaveSpellings names ps

-- The names and literals of the modules have spellings, and their nodes are those of the grammar.
pub record IsShaped (names : List (List ℕ)) (modules : List Module) : Type 0 where
  pub spelled : HaveSpellings names (modules_words modules).words
  pub nodes : (modules_words modules).is_shaped ≡ true

-- where the grammar knows the word as a name, its text is among the names
abbrev pub IsNumbered : List (List ℕ) → Piece → Type 0
IsNumbered names (fixed k) = is_name k ≡ true → has_text names (kind_text k) ≡ true
IsNumbered names other = Unit {0}

-- the names have the words that the grammar knows by their text, as far as these are among the words
abbrev pub AreNumbered : List (List ℕ) → List Piece → Type 0
AreNumbered names [] = Unit {0}
AreNumbered names (p ∷ ps) = IsNumbered names p × AreNumbered names ps
