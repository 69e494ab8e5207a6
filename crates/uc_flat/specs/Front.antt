-- Expressions where more cells follow.
use Rattle.std.specs.Prelude.{◌≡◌, List, ◌++◌, length}
use Rattle.uc_values.specs.declared.ty.Ty.{Ty}
use Rattle.uc_values.specs.declared.value.Value.{Value}
use Rattle.uc_ops.specs.declared.model.Model.{Model}
use Rattle.uc_flat.specs.declared.expression.Expression.{Expression}
use Rattle.uc_flat.specs.Reading.{type_of, value_of}
use Rattle.uc_flat.specs.Fine.{IsTyped}

-- with more cells behind the first ones, an expression has the same type, fits the types, and has the same value
pub record IsSameInFront (m : Model) (types more : List Ty) (cells values : List Value) (e : Expression) : Type 0 where
  pub type : type_of (types ++ more) e ≡ type_of types e
  pub typed : IsTyped (types ++ more) e
  pub value : value_of m (types ++ more) (cells ++ values) e ≡ value_of m types cells e

-- An expression that fits the types of the first cells says the same where more cells follow.
abbrev pub FrontLaw : Type 0
FrontLaw =
    (m : Model) (types more : List Ty) (cells values : List Value) (e : Expression) → length cells ≡ length types → IsTyped types e
    → IsSameInFront m types more cells values e
