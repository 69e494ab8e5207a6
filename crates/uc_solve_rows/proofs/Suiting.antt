-- The types and constants of the rows suit their operations.
use Rattle.std.specs.Prelude.{◌≡◌, ℕ, Bool as Flag, ◌<◌, ◌≤◌, ◌^◌, true, ◌&&◌, nat_le, nat_lt, IsTrue, [], ◌∷◌}
use Rattle.std.proofs.Common.{refl, ap, ◌∙◌, subst, sym, arith, inl, inr}
use Rattle.std.proofs.lemmas.Bool.Decides.{leb_tells}
use Rattle.std.proofs.lemmas.List.Elements.{All-cons, All-nil}
use Rattle.uc_values.specs.Types.{field_types, is_scalar}
use Rattle.uc_values.specs.declared.ty.Ty.{Ty}
use Rattle.uc_values.specs.declared.ty.Ty.TheVariants.{Bool, Int, Bv, Enum}
use Rattle.uc_values.specs.declared.value.Value.TheVariants.{Bool as Truth, Bv as Bits, Enum as Label}
use Rattle.uc_values.proofs.Shapes.{valid-Bool, valid-Int, valid-Bv, valid-Enum, valid-Rec, scalar-Bool, scalar-Bv}
use Rattle.uc_values.proofs.Fitting.{fits-IsBits, fits-IsLabel, Truth-fits}
use Rattle.uc_ops.specs.declared.op.Op.TheVariants.{Const, App, GetField}
use Rattle.uc_ops.specs.Typing.{Suits, Valid, type_of, part_type, fields_of}
use Rattle.uc_ops.proofs.Typed.{fields-Rec}
use Rattle.uc_solve_rows.specs.Records.{the_fields, record_type}

within : (a b : ℕ) → a ≤ b → nat_le a b ≡ true
within a b h = elim (leb_tells a b) [ inl x ↦ x.0 | inr x ↦ absurd (omega (arith, h, x.1)) ]

pub valid_bits : (width : ℕ) → 1 ≤ width → width ≤ 64 → Valid (Bv width)
valid_bits width l h = valid-Bv width ∙ (λ i. within 1 width l i && within width 64 h i)

pub bits_suit : (width number : ℕ) → 1 ≤ width → width ≤ 64 → number < 2 ^ width → Suits (Const (Bv width) (Bits width number)) []
bits_suit width number l h f = (refl, valid_bits width l h, refl, fits-IsBits width number f)

pub truth_suits : (b : Flag) → Suits (Const Bool (Truth b)) []
truth_suits b = (refl, valid-Bool, refl, Truth-fits b)

pub label_suits : Suits (Const (Enum 0 5) (Label 0 3)) []
label_suits = (refl, valid-Enum 0 5, refl, fits-IsLabel 0 5 3 (omega arith))

record_fine : Valid record_type
record_fine = valid-Rec the_fields ∙ (λ i. valid-Enum 0 5 i && (valid-Bv 2 i && true))

pub valid_record : (ty : Ty) → ty ≡ record_type → Valid ty
valid_record ty e = subst Valid (sym e) record_fine

pub field_suits : (place : ℕ) (ty : Ty) → ty ≡ record_type → place < 2 → Suits (GetField place) (ty ∷ [])
field_suits place ty e h = (the_fields, ap (λ t. t ∷ []) e, h)

fields_are : fields_of record_type ≡ the_fields
fields_are = fields-Rec the_fields

pub label_field : (ty : Ty) → ty ≡ record_type → type_of (GetField 0) (ty ∷ []) ≡ Enum 0 5
label_field ty e = ap (λ t. part_type (field_types (fields_of t)) 0) e ∙ ap (λ fs. part_type (field_types fs) 0) fields_are

pub bits_field : (ty : Ty) → ty ≡ record_type → type_of (GetField 1) (ty ∷ []) ≡ Bv 2
bits_field ty e = ap (λ t. part_type (field_types (fields_of t)) 1) e ∙ ap (λ fs. part_type (field_types fs) 1) fields_are

pub valid_truth : Valid Bool
valid_truth = valid-Bool

pub valid_integer : Valid Int
valid_integer = valid-Int

pub test_suits : Suits (App 0 Bool) (Bv 2 ∷ [])
test_suits = (All-cons (λ t. IsTrue (is_scalar t)) (Bv 2) [] (scalar-Bv 2) (All-nil (λ t. IsTrue (is_scalar t))), valid-Bool, scalar-Bool)
