-- The code of inputs by the kinds of the cells.
use Rattle.std.specs.Prelude.{ℕ, ◌+◌, false, if◌then◌else◌, List, [], ◌∷◌, ◌++◌}
use Rattle.uc_syntax.specs.declared.declaration.VariableKind.{VariableKind}
use Rattle.uc_meaning.specs.Steps.{is_input}
use Rattle.uc_flat.specs.declared.statement.Statement.{Statement}
use Rattle.uc_flat.specs.declared.statement.Statement.TheVariants.{Havoc}

-- in each step the inputs have any values, which are no choices: the kinds of the cells, from a number on
unfoldable pub inputs_by : ℕ → List VariableKind → List Statement
inputs_by n [] = []
inputs_by n (kind ∷ kinds) = (if is_input kind then Havoc n false ∷ [] else []) ++ inputs_by (n + 1) kinds
