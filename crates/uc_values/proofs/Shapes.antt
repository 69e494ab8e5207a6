-- The equations of what is asked of a type.
use Rattle.std.specs.Prelude.{ℕ, Bool, true, false, ◌&&◌, nat_lt, nat_le, ◌≡◌, List, [], ◌∷◌, map}
use Rattle.std.specs.List.{list_all}
use Rattle.std.proofs.Common.{refl, sym, ap, ◌∙◌}
use Rattle.uc_values.specs.Types.{Shape, shape, shape_form, is_valid, is_scalar, is_flat, field_types}
use Rattle.uc_values.specs.declared.ty.Field.{Field}
use Rattle.uc_values.specs.declared.ty.Ty.{Ty}
use Rattle.uc_values.specs.declared.ty.Ty.TheVariants.{Bool as Boolean, Int as Integer, Bv as Bits, Rec as Record, Enum as Label, Un as Open, Arr as Array, rolls-Bool, rolls-Int, rolls-Bv, rolls-Rec, rolls-Enum, rolls-Un, rolls-Arr}
use Rattle.uc_values.specs.declared.ty.Ty.TheFolds.{fold-roll-Ty}
use Rattle.uc_values.specs.declared.ty.Ty.TheOpen.Ty-F.{Bool as boolean_type, Int as integer_type, Bv as bits_type, Rec as record_type, Arr as array_type, Enum as enum_type, Un as open_type}

pub and_true : {a b : Bool} → (a && b) ≡ true → (a ≡ true) × (b ≡ true)
and_true {a = true} h = (refl, h)
and_true {a = false} h = cc

-- a field with what stands for its type
abbrev pub with_test : {A B : Type 0} → (A → B) → Field A → Field B
with_test g f = record { name = f.name; ty = g f.ty }

pub types_mapped : {B : Type 0} (g : Ty → B) (fs : List (Field Ty)) → map (λ (f : Field B). f.ty) (map (with_test g) fs) ≡ map g (field_types fs)
types_mapped g [] = refl
types_mapped g (f ∷ fs) = ap (λ xs. g f.ty ∷ xs) (types_mapped g fs)

pub all_mapped : {B : Type 0} (g : Ty → B) (test : B → Bool) (fs : List (Field Ty)) → list_all (λ (f : Field B). test f.ty) (map (with_test g) fs) ≡ list_all (λ (f : Field Ty). test (g f.ty)) fs
all_mapped g test [] = refl
all_mapped g test (f ∷ fs) = ap (λ b. test (g f.ty) && b) (all_mapped g test fs)

pub shape-Bool : shape Boolean ≡ shape_form boolean_type
shape-Bool = ap shape (sym rolls-Bool) ∙ fold-roll-Ty Shape shape_form boolean_type

pub shape-Int : shape Integer ≡ shape_form integer_type
shape-Int = ap shape (sym rolls-Int) ∙ fold-roll-Ty Shape shape_form integer_type

pub shape-Bv : (width : ℕ) → shape (Bits width) ≡ shape_form (bits_type width)
shape-Bv width = ap shape (sym (rolls-Bv width)) ∙ fold-roll-Ty Shape shape_form (bits_type width)

pub shape-Enum : (n k : ℕ) → shape (Label n k) ≡ shape_form (enum_type n k)
shape-Enum n k = ap shape (sym (rolls-Enum n k)) ∙ fold-roll-Ty Shape shape_form (enum_type n k)

pub shape-Un : (n : ℕ) → shape (Open n) ≡ shape_form (open_type n)
shape-Un n = ap shape (sym (rolls-Un n)) ∙ fold-roll-Ty Shape shape_form (open_type n)

pub shape-Rec : (fs : List (Field Ty)) → shape (Record fs) ≡ shape_form (record_type (map (with_test shape) fs))
shape-Rec fs = ap shape (sym (rolls-Rec fs)) ∙ fold-roll-Ty Shape shape_form (record_type fs)

pub shape-Arr : (i e : Ty) → shape (Array i e) ≡ shape_form (array_type (shape i) (shape e))
shape-Arr i e = ap shape (sym (rolls-Arr i e)) ∙ fold-roll-Ty Shape shape_form (array_type i e)

pub valid-Bool : is_valid Boolean ≡ true
valid-Bool = ap (λ (s : Shape). s.valid) shape-Bool

pub valid-Int : is_valid Integer ≡ true
valid-Int = ap (λ (s : Shape). s.valid) shape-Int

pub valid-Bv : (width : ℕ) → is_valid (Bits width) ≡ (nat_le 1 width && nat_le width 64)
valid-Bv width = ap (λ (s : Shape). s.valid) (shape-Bv width)

pub valid-Enum : (n k : ℕ) → is_valid (Label n k) ≡ nat_lt 0 k
valid-Enum n k = ap (λ (s : Shape). s.valid) (shape-Enum n k)

pub valid-Un : (n : ℕ) → is_valid (Open n) ≡ true
valid-Un n = ap (λ (s : Shape). s.valid) (shape-Un n)

pub valid-Rec : (fs : List (Field Ty)) → is_valid (Record fs) ≡ list_all (λ (f : Field Ty). is_valid f.ty) fs
valid-Rec fs = ap (λ (s : Shape). s.valid) (shape-Rec fs) ∙ all_mapped shape (λ s. s.valid) fs

pub valid-Arr : (i e : Ty) → is_valid (Array i e) ≡ ((is_valid i && is_valid e) && (is_scalar i && is_flat e))
valid-Arr i e = ap (λ (s : Shape). s.valid) (shape-Arr i e)

pub scalar-Bool : is_scalar Boolean ≡ true
scalar-Bool = ap (λ (s : Shape). s.scalar) shape-Bool

pub scalar-Int : is_scalar Integer ≡ true
scalar-Int = ap (λ (s : Shape). s.scalar) shape-Int

pub scalar-Bv : (width : ℕ) → is_scalar (Bits width) ≡ true
scalar-Bv width = ap (λ (s : Shape). s.scalar) (shape-Bv width)

pub scalar-Enum : (n k : ℕ) → is_scalar (Label n k) ≡ true
scalar-Enum n k = ap (λ (s : Shape). s.scalar) (shape-Enum n k)

pub scalar-Un : (n : ℕ) → is_scalar (Open n) ≡ true
scalar-Un n = ap (λ (s : Shape). s.scalar) (shape-Un n)

pub scalar-Rec : (fs : List (Field Ty)) → is_scalar (Record fs) ≡ false
scalar-Rec fs = ap (λ (s : Shape). s.scalar) (shape-Rec fs)

pub scalar-Arr : (i e : Ty) → is_scalar (Array i e) ≡ false
scalar-Arr i e = ap (λ (s : Shape). s.scalar) (shape-Arr i e)

pub flat-Rec : (fs : List (Field Ty)) → is_flat (Record fs) ≡ list_all (λ (f : Field Ty). is_scalar f.ty) fs
flat-Rec fs = ap (λ (s : Shape). s.flat) (shape-Rec fs) ∙ all_mapped shape (λ s. s.scalar) fs
