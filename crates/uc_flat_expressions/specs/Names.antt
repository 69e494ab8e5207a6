-- What names stand for over numbered cells.
use Rattle.std.specs.Prelude.{ℕ, Bool as Truth, true, false, List, [], Option, Some, None, slice_get}
use Rattle.std.specs.Option.{option_map}
use Rattle.uc_values.specs.declared.ty.Ty.{Ty}
use Rattle.uc_values.specs.declared.ty.Ty.TheVariants.{Enum}
use Rattle.uc_values.specs.declared.value.Value.TheVariants.{Enum as label}
use Rattle.uc_ops.specs.declared.op.Op.TheVariants.{Symbol, Const}
use Rattle.uc_flat.specs.declared.expression.Expression.TheVariants.{Cell as CellOf}
use Rattle.uc_flat_expressions.specs.declared.typed.TypedExpression.{TypedExpression}
use Rattle.uc_flat_expressions.specs.declared.typed.Meant.{Meant}
use Rattle.uc_flat_expressions.specs.declared.typed.Meant.TheVariants.{Unknown, Cell, Label, Constant}
use Rattle.uc_flat_expressions.specs.Building.{constant}

abbrev pub of_cell : ℕ → Ty → TypedExpression
of_cell k ty = record { expression = CellOf k; ty = ty; number = None }

-- a cell is that of the old state, and primed that of the new one, where this may be read
abbrev pub cell_in : Truth → ℕ → Option ℕ → Ty → Option TypedExpression
cell_in false old new ty = Some (of_cell old ty)
cell_in true old new ty = option_map (λ k. of_cell k ty) new

abbrev pub meant_as : Truth → Option Meant → Option TypedExpression
meant_as primed (Some (Cell old new ty)) = cell_in primed old new ty
meant_as primed (Some (Label number labels place)) = Some (constant (Const (Enum number labels) (label number place)) (Enum number labels))
meant_as primed (Some (Constant number ty)) = Some (constant (Symbol number ty) ty)
meant_as primed other = None

-- what a name stands for, where it is listed by its number
abbrev pub named : List Meant → ℕ → Truth → Option TypedExpression
named names x primed = meant_as primed (slice_get names x)
