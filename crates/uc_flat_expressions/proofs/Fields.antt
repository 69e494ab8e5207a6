-- A field that is selected, by what its name stands for among the fields.
use Rattle.std.proofs.Common.{◌≡◌, ℕ, [], ◌∷◌, refl, ap, ◌∙◌, Option, Some, None}
use Rattle.std.specs.Prelude.{nat_eq, slice_get}
use Rattle.std.specs.List.{position_from}
use Rattle.std.specs.Option.{option_map, option_and_then}
use Rattle.uc_values.specs.declared.ty.Field.{Field}
use Rattle.uc_values.specs.declared.ty.Ty.{Ty}
use Rattle.uc_ops.specs.declared.op.Op.TheVariants.{GetField}
use Rattle.uc_ops.specs.Typing.{fields_of}
use Rattle.uc_flat_expressions.specs.Building.{operation, field_at, field_selected}
use Rattle.uc_flat_expressions.specs.Fields.{named_field}
use Rattle.uc_flat_expressions.specs.declared.typed.TypedExpression.{TypedExpression}

abbrev of_field : TypedExpression → ℕ × Ty → TypedExpression
of_field a f = operation (GetField f.0) f.1 (a ∷ [])

field_named : (a : TypedExpression) (name : ℕ) → field_selected a name ≡ option_map (of_field a) (named_field a.ty name)
field_named a name = at_place (position_from (λ (d : Field Ty). nat_eq d.name name) 0 (fields_of a.ty))
  where
    at_field : (k : ℕ) (o : Option (Field Ty)) → field_at a k o ≡ option_map (of_field a) (option_map (λ (d : Field Ty). (k, d.ty)) o)
    at_field k None = refl
    at_field k (Some d) = refl

    at_place : (o : Option ℕ) → option_and_then (λ k. field_at a k (slice_get (fields_of a.ty) k)) o ≡ option_map (of_field a) (option_and_then (λ k. option_map (λ (d : Field Ty). (k, d.ty)) (slice_get (fields_of a.ty) k)) o)
    at_place None = refl
    at_place (Some k) = at_field k (slice_get (fields_of a.ty) k)

pub field_of_none : (a : TypedExpression) (name : ℕ) → named_field a.ty name ≡ None → field_selected a name ≡ None
field_of_none a name e = field_named a name ∙ ap (λ o. option_map (of_field a) o) e

pub field_of_some : (a : TypedExpression) (name k : ℕ) (ty : Ty) → named_field a.ty name ≡ Some (k, ty) → field_selected a name ≡ Some (operation (GetField k) ty (a ∷ []))
field_of_some a name k ty e = field_named a name ∙ ap (λ o. option_map (of_field a) o) e
