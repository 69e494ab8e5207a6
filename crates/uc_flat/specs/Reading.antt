-- The types and the values of expressions over cells.
use Rattle.std.specs.Prelude.{Bool, List, map}
use Rattle.uc_values.specs.Values.{TypedValue, truth_of}
use Rattle.uc_values.specs.declared.ty.Ty.{Ty}
use Rattle.uc_values.specs.declared.value.Value.{Value}
use Rattle.uc_ops.specs.declared.model.Model.{Model}
use Rattle.uc_ops.specs.Typing.{part_type, type_of as result_type}
use Rattle.uc_ops.specs.Meaning.{part, apply}
use Rattle.uc_flat.specs.declared.expression.Expression.{Expression}
use Rattle.uc_flat.specs.declared.expression.Expression.TheOpen.{Expression-F}
use Rattle.uc_flat.specs.declared.expression.Expression.TheOpen.Expression-F.{Cell, Apply}
use Rattle.uc_flat.specs.declared.expression.Expression.TheFolds.{fold-Expression}

abbrev pub type_form : List Ty → Expression-F Ty → Ty
type_form types (Cell k) = part_type types k
type_form types (Apply op parts) = result_type op parts

-- the type of an expression, where the cells have these types
unfoldable pub type_of : List Ty → Expression → Ty
type_of types = fold-Expression Ty (type_form types)

abbrev pub read_form : Model → List Ty → List Value → Expression-F TypedValue → TypedValue
read_form m types cells (Cell k) = record { ty = part_type types k; value = part cells k }
read_form m types cells (Apply op parts) = record {
  ty = result_type op (map (λ p. p.ty) parts);
  value = apply m op (map (λ p. p.ty) parts) (map (λ p. p.value) parts);
}

-- the type of an expression with its value
unfoldable pub read : Model → List Ty → List Value → Expression → TypedValue
read m types cells = fold-Expression TypedValue (read_form m types cells)

-- The value of an expression, where the cells have these types and values. The model has the constants, as its first symbols, and the functions, as its tables.
abbrev pub value_of : Model → List Ty → List Value → Expression → Value
value_of m types cells e = (read m types cells e).value

abbrev pub is_true : Model → List Ty → List Value → Expression → Bool
is_true m types cells e = truth_of (value_of m types cells e)
