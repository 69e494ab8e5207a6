-- When an expression over cells says what an expression of a design says.
use Rattle.std.specs.Prelude.{◌≡◌, ℕ, pos, Bool as Truth, IsTrue, List, Option, Some, None}
use Rattle.uc_values.specs.Values.{fits}
use Rattle.uc_values.specs.declared.ty.Ty.{Ty}
use Rattle.uc_values.specs.declared.ty.Ty.TheVariants.{Int}
use Rattle.uc_values.specs.declared.value.Value.{Value}
use Rattle.uc_values.specs.declared.value.Value.TheVariants.{Int as whole}
use Rattle.uc_ops.specs.declared.model.Model.{Model}
use Rattle.uc_ops.specs.Typing.{Valid}
use Rattle.uc_flat.specs.Reading.{type_of, value_of}
use Rattle.uc_flat.specs.Fine.{IsTyped, ReadsTyped}
use Rattle.uc_flat_expressions.specs.declared.typed.TypedExpression.{TypedExpression}
use Rattle.uc_flat_expressions.specs.declared.typed.Meant.{Meant}
use Rattle.uc_flat_expressions.specs.Names.{named}
use Rattle.uc_meaning.specs.declared.scope.Scope.{Scope}
use Rattle.uc_meaning.specs.Lookup.{System}
use Rattle.uc_meaning.specs.Expressions.{Reading, elsewhere, name, instance_at}

-- a literal whole number is of that type and is that number
abbrev pub IsNumber : Option ℕ → Reading → Type 0
IsNumber None r = Unit {0}
IsNumber (Some n) r = (r.type ≡ Int) × (r.value ≡ whole (pos n))

-- An expression over cells of these types says what is read: it is typed and of its type, a valid one, reads constants of these types, and what is read has this type and the value that the expression has on the cells, which fits the type.
pub record Says (constants : List Ty) (m : Model) (types : List Ty) (cells : List Value) (r : Reading) (t : TypedExpression) : Type 0 where
  pub typed : IsTyped types t.expression
  pub reads : ReadsTyped constants t.expression
  pub own : type_of types t.expression ≡ t.ty
  pub valid : Valid t.ty
  pub type : r.type ≡ t.ty
  pub value : r.value ≡ value_of m types cells t.expression
  pub fit : IsTrue (fits t.ty r.value)
  pub literal : IsNumber t.number r

-- what stands for a name says what the name says in a scope, and the name is that of no instance there
pub record IsMeant (system : System) (s : Scope) (constants : List Ty) (m : Model) (types : List Ty) (cells : List Value) (x : ℕ) (primed : Truth) (t : TypedExpression) : Type 0 where
  pub alone : instance_at system s x ≡ None
  pub says : Says constants m types cells (name system (elsewhere system) s x primed) t

-- the same of all names that stand for something
abbrev pub AreMeant : System → Scope → List Ty → Model → List Ty → List Value → List Meant → Type 0
AreMeant system s constants m types cells names =
    (x : ℕ) (primed : Truth) (t : TypedExpression) → named names x primed ≡ Some t → IsMeant system s constants m types cells x primed t
