-- What the expression over cells of an expression says.
use Rattle.std.specs.Prelude.{◌≡◌, List, Some}
use Rattle.uc_syntax.specs.declared.expression.Expr.{Expr}
use Rattle.uc_values.specs.declared.ty.Ty.{Ty}
use Rattle.uc_values.specs.declared.value.Value.{Value}
use Rattle.uc_ops.specs.declared.model.Model.{Model}
use Rattle.uc_flat_expressions.specs.declared.typed.TypedExpression.{TypedExpression}
use Rattle.uc_flat_expressions.specs.declared.typed.Meant.{Meant}
use Rattle.uc_flat_expressions.specs.Expressions.{flat_of}
use Rattle.uc_meaning.specs.declared.scope.Scope.{Scope}
use Rattle.uc_meaning.specs.Lookup.{System}
use Rattle.uc_meaning.specs.Expressions.{reading}
use Rattle.uc_flat_design.specs.Sayings.{Says, AreMeant}

-- Where names stand for what they mean in a scope, the expression over cells of an expression says what the expression says there.
abbrev pub FlatLaw : Type 0
FlatLaw =
    (system : System) (s : Scope) (constants : List Ty) (m : Model) (types : List Ty) (cells : List Value) (names : List Meant) (e : Expr) (t : TypedExpression)
    → AreMeant system s constants m types cells names → flat_of names e ≡ Some t → Says constants m types cells (reading system s e) t
