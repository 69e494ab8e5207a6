-- What the text of a printed design is.
use Rattle.std.specs.Prelude.{◌≡◌, ℕ, ◌<◌, ◌≤◌, Bool, true, false, List, [], ◌∷◌, Some}
use Rattle.uc_forms.specs.Answer.{Answer, spelled, wrong, too_deep, too_many, IsAnswer}
use Rattle.uc_forms.specs.Spelling.{Spells}
use Rattle.uc_lexer.specs.declared.token.Token.{Token}
use Rattle.uc_lexer.specs.declared.token.TokenKind.{TokenKind}
use Rattle.uc_lexer.specs.declared.token.TokenKind.TheVariants as token
use Rattle.uc_lexer.specs.Text.{Tokens}
use Rattle.uc_syntax.specs.Numbering.{AreDistinct, KeepNumbers}
use Rattle.uc_syntax.specs.declared.declaration.Module.{Module}
use Rattle.uc_grammar.specs.declared.word.Kind.{Kind}
use Rattle.uc_grammar.specs.declared.word.Word.{Word}
use Rattle.uc_grammar.specs.Language.{grammar}
use Rattle.uc_words.specs.Fixed.{fixed_kind}
use Rattle.uc_words.specs.Words.{bytes_of, with_tokens, AreWords, IsText}
use Rattle.uc_print_laws.specs.Piece.{Piece, name, applied, fixed, is_name, Shown}
use Rattle.uc_print_laws.specs.Declarations.{modules_words, erased_modules}
use Rattle.uc_print_laws.specs.Text.{spelling, design_text}
use Rattle.uc_print_laws.specs.Names.{HaveFewNames}
use Rattle.uc_print_laws.specs.Spelled.{HaveSpellings, IsShaped, AreNumbered}

-- ---- tokens

-- the token of a name that the grammar knows is a name; that of another word is the token of the same name and values
abbrev pub IsWordKind : Bool → Kind → TokenKind → Type 0
IsWordKind true k kind = kind ≡ token.Name
IsWordKind false k kind = fixed_kind kind ≡ Some k

-- the kind of a word's token
abbrev pub IsKindOf : Piece → TokenKind → Type 0
IsKindOf (name n) kind = kind ≡ token.Name
IsKindOf (applied n) kind = kind ≡ token.Name
IsKindOf (fixed k) kind = IsWordKind (is_name k) k kind

-- the token is this word: it has its bytes and its kind
pub record IsTokenOf (names : List (List ℕ)) (text : List ℕ) (t : Token) (p : Piece) : Type 0 where
  pub bytes : bytes_of text t ≡ spelling names p
  pub kind : IsKindOf p t.kind

-- the tokens are these words, one by one
abbrev pub AreTokensOf : List (List ℕ) → List ℕ → List Token → List Piece → Type 0
AreTokensOf names text [] [] = Unit {0}
AreTokensOf names text [] (p ∷ ps) = ⊥
AreTokensOf names text (t ∷ ts) [] = ⊥
AreTokensOf names text (t ∷ ts) (p ∷ ps) = IsTokenOf names text t p × AreTokensOf names text ts ps

-- Where the words of modules have spellings, the tokens of the printed text are exactly these words.
abbrev pub TextIsLexed : Type 0
TextIsLexed = (names : List (List ℕ)) (modules : List Module) (file : ℕ) → HaveSpellings names (modules_words modules).words
    → (tokens : List Token) × Tokens file (design_text names modules) tokens × AreTokensOf names (design_text names modules) tokens (modules_words modules).words

-- So under these names, or with further ones behind them, the words of the text are what was printed.
abbrev pub TextShowsWords : Type 0
TextShowsWords = (names after : List (List ℕ)) (modules : List Module) (file : ℕ) (words : List Word) → HaveSpellings names (modules_words modules).words
    → AreDistinct after → KeepNumbers names after → IsText after file (design_text names modules) words → Shown (modules_words modules).words words

-- ---- modules

-- The text spells these modules again, places and files aside: its words do, where the texts of its names get their numbers
-- among these names, and behind them where they are new.
pub record SpellsAgain (names : List (List ℕ)) (file : ℕ) (text : List ℕ) (modules : List Module) : Type 0 where
  pub tokens : List Token
  pub are_tokens : Tokens file text tokens
  pub words : List Word
  pub are_words : AreWords (with_tokens names text tokens) text tokens words
  pub depth : ℕ
  pub again : List Module
  pub spelled : Spells grammar.rule depth grammar.text words again
  pub same : erased_modules again ≡ erased_modules modules

-- The printed text of modules that are shaped spells them.
abbrev pub TextIsSpelled : Type 0
TextIsSpelled = (names : List (List ℕ)) (modules : List Module) (file : ℕ) → AreDistinct names → IsShaped names modules → SpellsAgain names file (design_text names modules) modules

-- What reading the text of these modules is to answer: the same modules, places aside, unless they nest deeper than may be, or
-- one of them declares more names than may be.
abbrev pub IsReadBack : ℕ → ℕ → List Module → Answer Word (List Module) → Type 0
IsReadBack levels limit modules (spelled again) = erased_modules again ≡ erased_modules modules
IsReadBack levels limit modules (wrong rest) = ⊥
IsReadBack levels limit modules (too_deep rest) = levels < (modules_words modules).depth
IsReadBack levels limit modules (too_many declared) = HaveFewNames limit modules → ⊥

-- So whatever is to be answered for the words of the printed text, under the same names or these with further ones behind them,
-- it is these modules.
abbrev pub TextIsReadBack : Type 0
TextIsReadBack = (levels limit : ℕ) (names after : List (List ℕ)) (modules : List Module) (file : ℕ) (words : List Word) (answer : Answer Word (List Module)) → IsShaped names modules
    → AreDistinct after → KeepNumbers names after → IsText after file (design_text names modules) words → IsAnswer grammar levels limit words answer → IsReadBack levels limit modules answer

-- Reading the text adds no names where those that the grammar knows are there.
abbrev pub TextKeepsNames : Type 0
TextKeepsNames = (names : List (List ℕ)) (modules : List Module) (file : ℕ) (tokens : List Token) → HaveSpellings names (modules_words modules).words → AreNumbered names (modules_words modules).words
    → Tokens file (design_text names modules) tokens → with_tokens names (design_text names modules) tokens ≡ names

-- What the words of a text spell is shaped under the names of these words, and nests no deeper than they do. The names have
-- all that is printed. So whatever was read is printed and read again, with no new names.
abbrev pub ParsedIsShaped : Type 0
ParsedIsShaped = (names : List (List ℕ)) (file : ℕ) (text : List ℕ) (words : List Word) (levels : ℕ) (modules : List Module) → IsText names file text words
    → Spells grammar.rule levels grammar.text words modules → IsShaped names modules × ((modules_words modules).depth ≤ levels) × AreNumbered names (modules_words modules).words

-- the same modules, places and files aside
abbrev pub IsSpelledAgain : List Module → Answer Word (List Module) → Type 0
IsSpelledAgain modules (spelled again) = erased_modules again ≡ erased_modules modules
IsSpelledAgain modules other = ⊥

-- So where a text is to be answered with modules, within limits of nesting and of names, the text that is printed of them is to be
-- answered with the same modules, within the same limits and under the same names.
abbrev pub ReadIsPrintedBack : Type 0
ReadIsPrintedBack = (levels limit : ℕ) (names : List (List ℕ)) (file : ℕ) (text : List ℕ) (words : List Word) (modules : List Module) → AreDistinct names → IsText names file text words → IsAnswer grammar levels limit words (spelled modules)
    → (other : ℕ) (printed : List Word) (answer : Answer Word (List Module)) → IsText names other (design_text names modules) printed → IsAnswer grammar levels limit printed answer → IsSpelledAgain modules answer
