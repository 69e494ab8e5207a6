-- Functions as tables.
use Rattle.std.specs.Prelude.{Bool, true, false, ◌&&◌, if◌then◌else◌, List, [], ◌∷◌}
use Rattle.uc_values.specs.Values.{same_scalar}
use Rattle.uc_values.specs.declared.value.Value.{Value}
use Rattle.uc_values.specs.declared.table.Row.{Row}
use Rattle.uc_values.specs.declared.table.Table.{Table}

-- two lists of scalars are the same
abbrev pub same_scalars : List Value → List Value → Bool
same_scalars [] [] = true
same_scalars (x ∷ xs) (y ∷ ys) = same_scalar x y && same_scalars xs ys
same_scalars [] (y ∷ ys) = false
same_scalars (x ∷ xs) [] = false

abbrev pub result_in : List Row → Value → List Value → Value
result_in [] default arguments = default
result_in (row ∷ rows) default arguments = if same_scalars row.arguments arguments then row.result else result_in rows default arguments

-- what a function gives: the result of the first row with these arguments, else the default
abbrev pub result_of : Table → List Value → Value
result_of table arguments = result_in table.rows table.default arguments
