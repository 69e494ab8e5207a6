-- What each form of type comes to.
use Rattle.std.specs.Prelude.{ℕ, ◌≡◌, Bool, true, false, ◌&&◌, nat_le, nat_lt, List, [], ◌∷◌}
use Rattle.std.specs.List.{list_all}
use Rattle.std.proofs.Common.{refl, sym, ap, ◌∙◌}
use Rattle.uc_values.specs.declared.ty.Field.{Field}
use Rattle.uc_values.specs.declared.ty.Ty.{Ty}
use Rattle.uc_values.specs.declared.ty.Ty.TheVariants.{Bool as Boolean, Int as Integer, Bv as Bits, Rec as Record, Enum as Labels, Un as Open, Arr as Array, rolls-Bool, rolls-Int, rolls-Bv, rolls-Rec, rolls-Enum, rolls-Un, rolls-Arr}
use Rattle.uc_values.specs.declared.ty.Ty.TheFolds.{fold-roll-Ty}
use Rattle.uc_values.specs.declared.ty.Ty.TheOpen.Ty-F.{Bool as boolean_type, Int as integer_type, Bv as bits_type, Rec as record_type, Arr as array_type, Enum as enum_type, Un as open_type}
use Rattle.uc_values.specs.Types.{is_valid}
use Rattle.uc_values.proofs.Shapes.{all_mapped, valid-Bool, valid-Bv, valid-Enum, valid-Rec}
use Rattle.uc_flat_code.specs.CellTypes.{is_finite_form, is_finite, is_cell_type}

and_true : (b : Bool) → (b && true) ≡ b
and_true true = refl
and_true false = refl

and_false : (b : Bool) → (b && false) ≡ false
and_false true = refl
and_false false = refl

pub boolean_is : (ty : Ty) → ty ≡ Boolean → is_cell_type ty ≡ true
boolean_is ty e =
    ap is_cell_type e ∙ ap (λ b. b && is_finite Boolean) valid-Bool ∙ ap is_finite (sym rolls-Bool) ∙ fold-roll-Ty Bool is_finite_form boolean_type

finite-Int : is_finite Integer ≡ false
finite-Int = ap is_finite (sym rolls-Int) ∙ fold-roll-Ty Bool is_finite_form integer_type

pub integer_is : (ty : Ty) → ty ≡ Integer → is_cell_type ty ≡ false
integer_is ty e = ap is_cell_type e ∙ ap (λ b. is_valid Integer && b) finite-Int ∙ and_false (is_valid Integer)

finite-Bv : (w : ℕ) → is_finite (Bits w) ≡ true
finite-Bv w = ap is_finite (sym (rolls-Bv w)) ∙ fold-roll-Ty Bool is_finite_form (bits_type w)

pub bits_is : (ty : Ty) (w : ℕ) → ty ≡ Bits w → is_cell_type ty ≡ (nat_le 1 w && nat_le w 64)
bits_is ty w e = ap is_cell_type e ∙ ap (λ b. is_valid (Bits w) && b) (finite-Bv w) ∙ and_true (is_valid (Bits w)) ∙ valid-Bv w

finite-Enum : (n k : ℕ) → is_finite (Labels n k) ≡ true
finite-Enum n k = ap is_finite (sym (rolls-Enum n k)) ∙ fold-roll-Ty Bool is_finite_form (enum_type n k)

pub enum_is : (ty : Ty) (n k : ℕ) → ty ≡ Labels n k → is_cell_type ty ≡ nat_lt 0 k
enum_is ty n k e = ap is_cell_type e ∙ ap (λ b. is_valid (Labels n k) && b) (finite-Enum n k) ∙ and_true (is_valid (Labels n k)) ∙ valid-Enum n k

finite-Un : (n : ℕ) → is_finite (Open n) ≡ false
finite-Un n = ap is_finite (sym (rolls-Un n)) ∙ fold-roll-Ty Bool is_finite_form (open_type n)

pub open_is : (ty : Ty) (n : ℕ) → ty ≡ Open n → is_cell_type ty ≡ false
open_is ty n e = ap is_cell_type e ∙ ap (λ b. is_valid (Open n) && b) (finite-Un n) ∙ and_false (is_valid (Open n))

finite-Arr : (i e : Ty) → is_finite (Array i e) ≡ false
finite-Arr i e = ap is_finite (sym (rolls-Arr i e)) ∙ fold-roll-Ty Bool is_finite_form (array_type i e)

pub array_is : (ty i e : Ty) → ty ≡ Array i e → is_cell_type ty ≡ false
array_is ty i e h = ap is_cell_type h ∙ ap (λ b. is_valid (Array i e) && b) (finite-Arr i e) ∙ and_false (is_valid (Array i e))

finite-Rec : (fs : List (Field Ty)) → is_finite (Record fs) ≡ list_all (λ (f : Field Ty). is_finite f.ty) fs
finite-Rec fs = ap is_finite (sym (rolls-Rec fs)) ∙ fold-roll-Ty Bool is_finite_form (record_type fs) ∙ all_mapped is_finite (λ b. b) fs

mixed : (a b c d : Bool) → ((a && b) && (c && d)) ≡ ((a && c) && (b && d))
mixed true true c d = refl
mixed true false true d = refl
mixed true false false d = refl
mixed false b c d = refl

both_all : (fs : List (Field Ty)) → (list_all (λ (f : Field Ty). is_valid f.ty) fs && list_all (λ (f : Field Ty). is_finite f.ty) fs) ≡ list_all (λ (f : Field Ty). is_cell_type f.ty) fs
both_all [] = refl
both_all (f ∷ fs) =
    mixed (is_valid f.ty) (list_all (λ (g : Field Ty). is_valid g.ty) fs) (is_finite f.ty) (list_all (λ (g : Field Ty). is_finite g.ty) fs) ∙ ap (λ b. is_cell_type f.ty && b) (both_all fs)

pub record_is : (ty : Ty) (fs : List (Field Ty)) → ty ≡ Record fs → is_cell_type ty ≡ list_all (λ (f : Field Ty). is_cell_type f.ty) fs
record_is ty fs e = ap is_cell_type e ∙ ap (λ b. b && is_finite (Record fs)) (valid-Rec fs) ∙ ap (λ b. list_all (λ (f : Field Ty). is_valid f.ty) fs && b) (finite-Rec fs) ∙ both_all fs
