-- What statements show alone, statement by statement.
use Rattle.std.specs.Prelude.{ℕ, Bool, false, ◌||◌, nat_lt, List, [], ◌∷◌, length}
use Rattle.std.specs.List.{flat_map}
use Rattle.uc_syntax.specs.declared.statement.Arm.{Arm}
use Rattle.uc_syntax.specs.declared.statement.Stmt.{Stmt}
use Rattle.uc_syntax.specs.declared.statement.Stmt.TheFolds.{fold-Stmt}
use Rattle.uc_rules.specs.declared.fault.Fault.{Fault}
use Rattle.uc_rules.specs.declared.rule.Rule.TheVariants.{TooLarge}
use Rattle.uc_rules.specs.Faults.{breaks_where}
use Rattle.uc_rules.specs.Names.{names_one_of}
use Rattle.uc_type_names.specs.declared.enums.WrittenEnum.{WrittenEnum}
use Rattle.uc_type_names.specs.NameSets.{with_name}
use Rattle.uc_order_rules.specs.Sizes.{most_labels, turns_form}
use Rattle.uc_order_rules.specs.Writes.{twice_form}

-- the loops with too many turns in a statement
unfoldable pub long_loops : Stmt → List Fault
long_loops = fold-Stmt (List Fault) turns_form

-- the assignments and calls in a statement that name a variable twice among their targets
unfoldable pub named_twice : Stmt → List Fault
named_twice = fold-Stmt (List Fault) twice_form

-- an enum with too many labels
abbrev pub too_many_labels : WrittenEnum → List Fault
too_many_labels e = breaks_where (nat_lt most_labels (length e.labels.now)) TooLarge e.place

-- what the blocks of an arm show
abbrev pub in_arm : (Stmt → List Fault) → Arm Stmt → List Fault
in_arm f a = flat_map f a.body

-- whether a name was seen, or stands twice
unfoldable pub is_seen_again : List ℕ → List ℕ → Bool
is_seen_again seen [] = false
is_seen_again seen (x ∷ xs) = names_one_of seen x || is_seen_again (with_name seen x) xs
