-- What a further cell begins with: a value of its type, which reads nothing.
use Rattle.std.specs.Prelude.{[], map}
use Rattle.uc_values.specs.declared.ty.Ty.{Ty}
use Rattle.uc_values.specs.declared.ty.Ty.TheOpen.{Ty-F}
use Rattle.uc_values.specs.declared.ty.Ty.TheOpen.Ty-F.{Rec as record_type}
use Rattle.uc_values.specs.declared.ty.Ty.TheViews.{roll-Ty}
use Rattle.uc_values.specs.declared.ty.Ty.TheFolds.{fold-Ty, map-Ty}
use Rattle.uc_values.specs.Values.{zero_of as zero_value}
use Rattle.uc_ops.specs.declared.op.Op.TheVariants.{Const, MkRec}
use Rattle.uc_flat.specs.declared.expression.Expression.{Expression}
use Rattle.uc_flat.specs.declared.expression.Expression.TheVariants.{Apply}

-- a type with the expression of its value that counts as 0
pub record Zero : Type 0 where
  pub ty : Ty
  pub expression : Expression

-- a record of such parts, or a constant
abbrev pub parts_form : Ty → Ty-F Zero → Expression
parts_form ty (record_type fields) = Apply (MkRec ty) (map (λ f. f.ty.expression) fields)
parts_form ty other = Apply (Const ty (zero_value ty)) []

abbrev pub type_form : Ty-F Zero → Ty
type_form y = roll-Ty (map-Ty Zero Ty (λ z. z.ty) y)

abbrev pub zero_form : Ty-F Zero → Zero
zero_form y = record { ty = type_form y; expression = parts_form (type_form y) y }

unfoldable pub zero_of : Ty → Expression
zero_of ty = (fold-Ty Zero zero_form ty).expression
