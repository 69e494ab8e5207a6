-- The innermost fields of types of finitely many values, and what stands for their values.
use Rattle.std.specs.Prelude.{ℕ, true, ◌≡◌, List, [], ◌∷◌, ◌++◌, map, Option, Some, None, All}
use Rattle.std.specs.List.{list_all}
use Rattle.std.proofs.Common.{refl, sym, ap, ◌∙◌, subst}
use Rattle.std.proofs.lemmas.List.{map-append}
use Rattle.std.proofs.lemmas.List.Elements.{All-append, All-cons, All-nil, All-head, All-tail}
use Rattle.uc_values.specs.Values.{label_of, parts_of}
use Rattle.uc_values.specs.Types.{is_valid, field_types}
use Rattle.uc_values.specs.Sizes.{label_bits, bit_count, total_bits, both_bits, counts}
use Rattle.uc_values.proofs.Shapes.{with_test, and_true, valid-Rec}
use Rattle.uc_values.proofs.Widths.{bits-Rec, bits-Int, bits-Un, bits-Arr}
use Rattle.uc_values.specs.declared.ty.Field.{Field}
use Rattle.uc_values.specs.declared.ty.Ty.{Ty}
use Rattle.uc_values.specs.declared.ty.Ty.TheVariants.{Bool, Bv, Enum, Rec, rolls-Bool, rolls-Int, rolls-Bv, rolls-Rec, rolls-Enum, rolls-Un, rolls-Arr}
use Rattle.uc_values.specs.declared.ty.Ty.TheFolds.{fold-roll-Ty, ind-Ty, map-Ty}
use Rattle.uc_values.specs.declared.ty.Ty.TheViews.{roll-Ty}
use Rattle.uc_values.specs.declared.ty.Ty.TheOpen.{Ty-F}
use Rattle.uc_values.specs.declared.ty.Ty.TheOpen.Ty-F.{Bool as boolean_type, Int as integer_type, Bv as bits_type, Enum as enum_type, Un as open_type, Rec as record_type, Arr as array_type}
use Rattle.uc_values.specs.declared.value.Value.{Value}
use Rattle.uc_values.specs.declared.value.Value.TheVariants.{Bv as Bits}
use Rattle.uc_ops.specs.Typing.{Valid, AllValid}
use Rattle.uc_lower.specs.Fields.{joined_leaves, leaves_form, leaves, low_type, low_types, joined_codes, coded_form, coded, all_leaves, all_low, all_coded}
use Rattle.uc_lower.specs.Made.{IsLowType, truth, bits, HasBits}

-- the equations of the innermost fields, by the forms of the type
pub leaves-Bool : leaves Bool ≡ Bool ∷ []
leaves-Bool = ap leaves (sym rolls-Bool) ∙ fold-roll-Ty (List Ty) leaves_form boolean_type

pub leaves-Bv : (width : ℕ) → leaves (Bv width) ≡ Bv width ∷ []
leaves-Bv width = ap leaves (sym (rolls-Bv width)) ∙ fold-roll-Ty (List Ty) leaves_form (bits_type width)

pub leaves-Enum : (n k : ℕ) → leaves (Enum n k) ≡ Enum n k ∷ []
leaves-Enum n k = ap leaves (sym (rolls-Enum n k)) ∙ fold-roll-Ty (List Ty) leaves_form (enum_type n k)

leaves_joined : (fs : List (Field Ty)) → joined_leaves (map (with_test leaves) fs) ≡ all_leaves (field_types fs)
leaves_joined [] = refl
leaves_joined (f ∷ fs) = ap (λ xs. leaves f.ty ++ xs) (leaves_joined fs)

pub leaves-Rec : (fs : List (Field Ty)) → leaves (Rec fs) ≡ all_leaves (field_types fs)
leaves-Rec fs = ap leaves (sym (rolls-Rec fs)) ∙ fold-roll-Ty (List Ty) leaves_form (record_type fs) ∙ leaves_joined fs

pub low-all : (tys : List Ty) → map low_type (all_leaves tys) ≡ all_low tys
low-all [] = refl
low-all (ty ∷ tys) = map-append low_type (leaves ty) (all_leaves tys) ∙ ap (λ xs. low_types ty ++ xs) (low-all tys)

pub low-Bool : low_types Bool ≡ Bool ∷ []
low-Bool = ap (map low_type) leaves-Bool

pub low-Bv : (width : ℕ) → low_types (Bv width) ≡ Bv width ∷ []
low-Bv width = ap (map low_type) (leaves-Bv width)

pub low-Enum : (n k : ℕ) → low_types (Enum n k) ≡ Bv (label_bits k) ∷ []
low-Enum n k = ap (map low_type) (leaves-Enum n k)

pub low-Rec : (fs : List (Field Ty)) → low_types (Rec fs) ≡ all_low (field_types fs)
low-Rec fs = ap (map low_type) (leaves-Rec fs) ∙ low-all (field_types fs)

pub coded-Bool : (v : Value) → coded Bool v ≡ v ∷ []
coded-Bool v = ap (λ ty. coded ty v) (sym rolls-Bool) ∙ ap (λ f. f v) (fold-roll-Ty (Value → List Value) coded_form boolean_type)

pub coded-Bv : (width : ℕ) (v : Value) → coded (Bv width) v ≡ v ∷ []
coded-Bv width v = ap (λ ty. coded ty v) (sym (rolls-Bv width)) ∙ ap (λ f. f v) (fold-roll-Ty (Value → List Value) coded_form (bits_type width))

pub coded-Enum : (n k : ℕ) (v : Value) → coded (Enum n k) v ≡ Bits (label_bits k) (label_of v) ∷ []
coded-Enum n k v = ap (λ ty. coded ty v) (sym (rolls-Enum n k)) ∙ ap (λ f. f v) (fold-roll-Ty (Value → List Value) coded_form (enum_type n k))

codes_joined : (fs : List (Field Ty)) (vs : List Value) → joined_codes (map (with_test coded) fs) vs ≡ all_coded (field_types fs) vs
codes_joined [] vs = refl
codes_joined (f ∷ fs) [] = refl
codes_joined (f ∷ fs) (v ∷ vs) = ap (λ xs. coded f.ty v ++ xs) (codes_joined fs vs)

pub coded-Rec : (fs : List (Field Ty)) (v : Value) → coded (Rec fs) v ≡ all_coded (field_types fs) (parts_of v)
coded-Rec fs v = ap (λ ty. coded ty v) (sym (rolls-Rec fs)) ∙ ap (λ f. f v) (fold-roll-Ty (Value → List Value) coded_form (record_type fs)) ∙ codes_joined fs (parts_of v)

-- the types are booleans, bit-vectors, enums and records of these
pub data AllFinite : List Ty → Type 0 where
  none : AllFinite []
  boolean : (tys : List Ty) → AllFinite tys → AllFinite (Bool ∷ tys)
  word : (width : ℕ) (tys : List Ty) → AllFinite tys → AllFinite (Bv width ∷ tys)
  label : (n k : ℕ) (tys : List Ty) → AllFinite tys → AllFinite (Enum n k ∷ tys)
  fields : (fs : List (Field Ty)) (tys : List Ty) → AllFinite (field_types fs) → AllFinite tys → AllFinite (Rec fs ∷ tys)

record BothBits (a b : Option ℕ) : Type 0 where
  first : (n : ℕ) × (a ≡ Some n)
  second : (n : ℕ) × (b ≡ Some n)

both_some : (a b : Option ℕ) (n : ℕ) → both_bits a b ≡ Some n → BothBits a b
both_some None b n h = cc
both_some (Some i) None n h = cc
both_some (Some i) (Some j) n h = record { first = (i, refl); second = (j, refl) }

abbrev GoesOn : Ty → Type 0
GoesOn ty = HasBits ty → (tys : List Ty) → AllFinite tys → AllFinite (ty ∷ tys)

abbrev Proved : Type 0
Proved = (ty : Ty) × GoesOn ty

abbrev firsts : Field Proved → Field Ty
firsts f = record { name = f.name; ty = f.ty.0 }

fields_finite : (ps : List (Field Proved)) (n : ℕ) → total_bits (counts (map firsts ps)) ≡ Some n → AllFinite (field_types (map firsts ps))
fields_finite [] n h = none
fields_finite (p ∷ ps) n h =
    let b = both_some (bit_count p.ty.0) (total_bits (counts (map firsts ps))) n h in
    p.ty.1 b.first (field_types (map firsts ps)) (fields_finite ps b.second.0 b.second.1)

finite_cases : (y : Ty-F Proved) → GoesOn (roll-Ty (map-Ty Proved Ty (λ e. e.0) y))
finite_cases boolean_type = subst GoesOn (sym rolls-Bool) (λ h tys r. boolean tys r)
finite_cases integer_type = subst GoesOn (sym rolls-Int) (λ h tys r. let e = sym bits-Int ∙ h.1 in cc)
finite_cases (bits_type width) = subst GoesOn (sym (rolls-Bv width)) (λ h tys r. word width tys r)
finite_cases (enum_type n k) = subst GoesOn (sym (rolls-Enum n k)) (λ h tys r. label n k tys r)
finite_cases (open_type n) = subst GoesOn (sym (rolls-Un n)) (λ h tys r. let e = sym (bits-Un n) ∙ h.1 in cc)
finite_cases (record_type ps) = subst GoesOn (sym (rolls-Rec (map firsts ps))) (λ h tys r.
    fields (map firsts ps) tys (fields_finite ps h.0 (sym (bits-Rec (map firsts ps)) ∙ h.1)) r)
finite_cases (array_type i e) = subst GoesOn (sym (rolls-Arr i.0 e.0)) (λ h tys r. let e = sym (bits-Arr i.0 e.0) ∙ h.1 in cc)

pub finite_more : (ty : Ty) → HasBits ty → (tys : List Ty) → AllFinite tys → AllFinite (ty ∷ tys)
finite_more = ind-Ty GoesOn (λ x y is. subst (λ z. GoesOn (roll-Ty z)) is (finite_cases y))

pub one_finite : (ty : Ty) → HasBits ty → AllFinite (ty ∷ [])
one_finite ty h = finite_more ty h [] none

-- a field is a boolean, a bit-vector or a label
pub data IsLeaf : Ty → Type 0 where
  truth_leaf : IsLeaf Bool
  bits_leaf : (width : ℕ) → IsLeaf (Bv width)
  label_leaf : (n k : ℕ) → IsLeaf (Enum n k)

pub leaves_leaf : (tys : List Ty) → AllFinite tys → All IsLeaf (all_leaves tys)
leaves_leaf tys none = All-nil IsLeaf
leaves_leaf tys (boolean rest r) = rw leaves-Bool (All-cons IsLeaf Bool (all_leaves rest) truth_leaf (leaves_leaf rest r))
leaves_leaf tys (word width rest r) = rw (leaves-Bv width) (All-cons IsLeaf (Bv width) (all_leaves rest) (bits_leaf width) (leaves_leaf rest r))
leaves_leaf tys (label n k rest r) = rw (leaves-Enum n k) (All-cons IsLeaf (Enum n k) (all_leaves rest) (label_leaf n k) (leaves_leaf rest r))
leaves_leaf tys (fields fs rest f r) = rw (leaves-Rec fs) (All-append IsLeaf (all_leaves (field_types fs)) (all_leaves rest) (leaves_leaf (field_types fs) f) (leaves_leaf rest r))

low_leaf : (ty : Ty) → IsLeaf ty → IsLowType (low_type ty)
low_leaf ty truth_leaf = truth
low_leaf ty (bits_leaf width) = bits width
low_leaf ty (label_leaf n k) = bits (label_bits k)

all_low_leaves : (tys : List Ty) → All IsLeaf tys → All IsLowType (map low_type tys)
all_low_leaves [] h = All-nil IsLowType
all_low_leaves (ty ∷ tys) h = All-cons IsLowType (low_type ty) (map low_type tys) (low_leaf ty (All-head IsLeaf ty tys h)) (all_low_leaves tys (All-tail IsLeaf ty tys h))

pub low_low : (tys : List Ty) → AllFinite tys → All IsLowType (all_low tys)
low_low tys h = subst (All IsLowType) (low-all tys) (all_low_leaves (all_leaves tys) (leaves_leaf tys h))

-- the leaves of valid types are valid
fields_valid : (fs : List (Field Ty)) → list_all (λ (f : Field Ty). is_valid f.ty) fs ≡ true → AllValid (field_types fs)
fields_valid [] h = All-nil Valid
fields_valid (f ∷ fs) h = let both = and_true h in All-cons Valid f.ty (field_types fs) both.0 (fields_valid fs both.1)

pub Rec-valid : (fs : List (Field Ty)) → Valid (Rec fs) → AllValid (field_types fs)
Rec-valid fs v = fields_valid fs (sym (valid-Rec fs) ∙ v)

pub leaves_valid : (tys : List Ty) → AllFinite tys → AllValid tys → AllValid (all_leaves tys)
leaves_valid tys none v = All-nil Valid
leaves_valid tys (boolean rest r) v = rw leaves-Bool (All-cons Valid Bool (all_leaves rest) (All-head Valid Bool rest v) (leaves_valid rest r (All-tail Valid Bool rest v)))
leaves_valid tys (word width rest r) v = rw (leaves-Bv width) (All-cons Valid (Bv width) (all_leaves rest) (All-head Valid (Bv width) rest v) (leaves_valid rest r (All-tail Valid (Bv width) rest v)))
leaves_valid tys (label n k rest r) v = rw (leaves-Enum n k) (All-cons Valid (Enum n k) (all_leaves rest) (All-head Valid (Enum n k) rest v) (leaves_valid rest r (All-tail Valid (Enum n k) rest v)))
leaves_valid tys (fields fs rest f r) v =
    rw (leaves-Rec fs) (All-append Valid (all_leaves (field_types fs)) (all_leaves rest) (leaves_valid (field_types fs) f (Rec-valid fs (All-head Valid (Rec fs) rest v))) (leaves_valid rest r (All-tail Valid (Rec fs) rest v)))
