-- Trees that words spell are those of the grammar.
use Rattle.std.specs.Prelude.{◌≡◌, ◌≤◌, ℕ, true, List}
use Rattle.uc_forms.specs.Spelling.{Spells}
use Rattle.uc_grammar.specs.declared.word.Word.{Word}
use Rattle.uc_grammar.specs.Language.{grammar}
use Rattle.uc_syntax.specs.declared.declaration.Module.{Module}
use Rattle.uc_print_laws.specs.Printed.{Printed}
use Rattle.uc_print_laws.specs.Declarations.{modules_words}
use Rattle.uc_print_laws.specs.Kept.{AreAll, IsAmong}

-- What is printed of a tree that these words spell with so many levels: the grammar has such a tree, it nests no deeper, and each
-- word that is printed is one of these.
pub record IsKept (levels : ℕ) (words : List Word) (x : Printed) : Type 0 where
  pub nodes : x.is_shaped ≡ true
  pub depth : x.depth ≤ levels
  pub among : AreAll (IsAmong words) x.words

-- So it is with all modules that words spell. Parentheses are printed only where words had them.
abbrev pub SpelledIsShaped : Type 0
SpelledIsShaped = (levels : ℕ) (words : List Word) (modules : List Module) → Spells grammar.rule levels grammar.text words modules → IsKept levels words (modules_words modules)
