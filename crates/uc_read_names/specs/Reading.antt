-- What stands before a selection, by what the rules' definitions say of it.
use Rattle.std.specs.Prelude.{◌≡◌, ℕ, List}
use Rattle.uc_syntax.specs.declared.declaration.Module.{Module}
use Rattle.uc_meaning.specs.Lookup.{System}
use Rattle.uc_rules.specs.Expressions.{Standing as Meant, ValueOf, StateOf, Inside as InsideMeant, Wrong as WrongMeant, Broken as BrokenMeant}
use Rattle.uc_rules.specs.Names.{names_one_of}
use Rattle.uc_rules.specs.Reads.{define_reads}
use Rattle.uc_names.specs.Senses.{module_in}
use Rattle.uc_read_names.specs.declared.standing.Standing.{Standing}
use Rattle.uc_read_names.specs.declared.standing.Standing.TheVariants.{Value, State, Inside, Wrong, Broken}

abbrev pub standing_meant : List Module → Standing → Meant
standing_meant ms (Value t) = ValueOf t
standing_meant ms (State t) = StateOf t
standing_meant ms (Inside place home) = InsideMeant place (module_in ms home)
standing_meant ms (Wrong f) = WrongMeant f
standing_meant ms Broken = BrokenMeant

-- these names are those of the defines of a module that read state
unfoldable pub KnowsReads : System → Module → List ℕ → Type 0
KnowsReads s m reading = (f : ℕ) → names_one_of reading f ≡ define_reads s m f

-- two lists have the same names
unfoldable pub SameNames : List ℕ → List ℕ → Type 0
SameNames names others = (x : ℕ) → names_one_of names x ≡ names_one_of others x
