-- What code does where choices are taken from a list, one for each listed havoc that is met, other values from a second list, and a false assumption stops it.
use Rattle.std.specs.Prelude.{ℕ, Bool, true, false, not, if◌then◌else◌, List, [], ◌∷◌, ◌++◌, map, slice_set, Option, Some, None}
use Rattle.std.specs.Option.{option_and_then, option_map}
use Rattle.uc_values.specs.declared.ty.Ty.{Ty}
use Rattle.uc_values.specs.declared.value.Value.{Value}
use Rattle.uc_values.specs.Values.{fits}
use Rattle.uc_ops.specs.declared.model.Model.{Model}
use Rattle.uc_ops.specs.Typing.{part_type}
use Rattle.uc_flat.specs.declared.statement.Statement.{Statement}
use Rattle.uc_flat.specs.declared.statement.Statement.TheOpen.{Statement-F}
use Rattle.uc_flat.specs.declared.statement.Statement.TheOpen.Statement-F.{Assign, Havoc, Assume, Assert, If}
use Rattle.uc_flat.specs.declared.statement.Statement.TheFolds.{fold-Statement}
use Rattle.uc_flat.specs.Reading.{value_of, is_true}
use Rattle.uc_flat.specs.Drawn.{listed_if}

-- Where an execution is: the values of the cells, the choices that are left, the values that are left for havocs that are no choices, and the sites that were listed.
pub record Placed : Type 0 where
  pub cells : List Value
  pub left : List Value
  pub others : List Value
  pub sites : List ℕ

-- None where it stopped, or where a value was missing or did not fit
abbrev pub Execution : Type 0
Execution = Placed → Option Placed

unfoldable pub in_turn : List Execution → Execution
in_turn [] p = Some p
in_turn (x ∷ xs) p = option_and_then (in_turn xs) (x p)

-- the next value, which must fit, and the values after it
abbrev pub next_of : Ty → List Value → Option (Value × List Value)
next_of ty [] = None
next_of ty (v ∷ rest) = if fits ty v then Some (v, rest) else None

abbrev pub with_choice : ℕ → Placed → Value × List Value → Placed
with_choice k p x = record { cells = slice_set p.cells k x.0; left = x.1; others = p.others; sites = p.sites }

abbrev pub with_other : ℕ → Placed → Value × List Value → Placed
with_other k p x = record { cells = slice_set p.cells k x.0; left = p.left; others = x.1; sites = p.sites }

abbrev pub chooses : Bool → Ty → ℕ → Execution
chooses true ty k p = option_map (with_choice k p) (next_of ty p.left)
chooses false ty k p = option_map (with_other k p) (next_of ty p.others)

abbrev pub run_form : Model → List Ty → Statement-F Execution → Execution
run_form m types (Assign k e) p = Some (record { cells = slice_set p.cells k (value_of m types p.cells e); left = p.left; others = p.others; sites = p.sites })
run_form m types (Havoc k listed) p = chooses listed (part_type types k) k p
run_form m types (Assume e) p = if is_true m types p.cells e then Some p else None
run_form m types (Assert site e) p = Some (record { cells = p.cells; left = p.left; others = p.others; sites = p.sites ++ listed_if (not (is_true m types p.cells e)) site })
run_form m types (If e xs ys) p = in_turn (if is_true m types p.cells e then xs else ys) p

unfoldable pub runs : Model → List Ty → Statement → Execution
runs m types = fold-Statement Execution (run_form m types)

unfoldable pub run_all : Model → List Ty → List Statement → Execution
run_all m types code = in_turn (map (runs m types) code)
