-- What expressions over cells say in the scopes of a design.
use Rattle.std.specs.Prelude.{◌≡◌, true, List}
use Rattle.uc_syntax.specs.declared.expression.Expr.{Expr}
use Rattle.uc_values.specs.declared.ty.Ty.{Ty}
use Rattle.uc_values.specs.declared.value.Value.{Value}
use Rattle.uc_values.specs.Values.{fits}
use Rattle.uc_meaning.specs.declared.scope.Scope.{Scope}
use Rattle.uc_meaning.specs.Lookup.{System}
use Rattle.uc_meaning.specs.Expressions.{value}
use Rattle.uc_ops.specs.declared.model.Model.{Model}
use Rattle.uc_flat.specs.Reading.{value_of}
use Rattle.uc_flat_expressions.specs.declared.typed.TypedExpression.{TypedExpression}

-- the scope in which code is read where the cells have these values
abbrev pub Scopes : Type 0
Scopes = List Value → Scope

-- an expression over cells has the value that an expression has in the scope, and this fits its type
pub record IsSaid (system : System) (m : Model) (types : List Ty) (s : Scope) (cells : List Value) (e : Expr) (t : TypedExpression) : Type 0 where
  pub same : value system s e ≡ value_of m types cells t.expression
  pub fit : fits t.ty (value_of m types cells t.expression) ≡ true
