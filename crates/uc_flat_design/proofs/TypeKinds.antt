-- Types by the tests that they pass.
use Rattle.std.proofs.Common.{◌≡◌, ℕ, ◌+◌, ◌≤◌, ◌<◌, true, Some, None, refl, sym, ap, arith}
use Rattle.std.specs.Prelude.{nat_eq, nat_le, nat_lt, if◌then◌else◌}
use Rattle.std.proofs.lemmas.Bool.Decides.{nat_tests}
use Rattle.uc_values.proofs.Shapes.{and_true}
use Rattle.uc_values.specs.declared.ty.Ty.{Ty}
use Rattle.uc_values.specs.declared.ty.Ty.TheVariants.{Bool, Bv}
use Rattle.uc_flat_expressions.specs.declared.building.Chain.{Chain}
use Rattle.uc_flat_expressions.specs.declared.building.Chain.TheVariants.{Equal, Or as OrBits, Xor, And as AndBits, Concat as Joined, Add, Subtract, Multiply}
use Rattle.uc_flat_expressions.specs.Types.{is_boolean, is_bits, are_same_bits}
use Rattle.uc_flat_expressions.specs.Building.{concat_type, bits_type, truth_type, joined_type, is_range}
use Rattle.uc_flat_design.proofs.FlatMeaningOptions.{some_is, if_some}

pub eq_is : (v w : ℕ) → nat_eq v w ≡ true → v ≡ w
eq_is v w h = grind (arith, nat_tests)

pub le_is : (v w : ℕ) → nat_le v w ≡ true → v ≤ w
le_is v w h = grind (arith, nat_tests)

pub lt_is : (v w : ℕ) → nat_lt v w ≡ true → v < w
lt_is v w h = grind (arith, nat_tests)

pub boolean_is : (ty : Ty) → is_boolean ty ≡ true → ty ≡ Bool
boolean_is Bool h = refl
boolean_is other h = cc

pub bits_are : (ty : Ty) → is_bits ty ≡ true → (w : ℕ) × (ty ≡ Bv w)
bits_are (Bv w) h = (w, refl)
bits_are other h = cc

-- two types are one of bits
pub record OneWidth (a b : Ty) : Type 0 where
  pub width : ℕ
  pub first : a ≡ Bv width
  pub second : b ≡ Bv width

pub same_bits_are : (a b : Ty) → are_same_bits a b ≡ true → OneWidth a b
same_bits_are (Bv v) (Bv w) h = record { width = v; first = refl; second = ap Bv (sym (eq_is v w h)) }
same_bits_are a b h = cc

-- what types a chain joins, and to which
abbrev pub JoinedAs : Chain → Ty → Ty → Ty → Type 0
JoinedAs Equal a b ty = (a ≡ Bool) × (b ≡ Bool) × (ty ≡ Bool)
JoinedAs Joined a b ty = (v : ℕ) × (w : ℕ) × (a ≡ Bv v) × (b ≡ Bv w) × (ty ≡ Bv (v + w)) × (v + w ≤ 64)
JoinedAs kind a b ty = (w : ℕ) × (a ≡ Bv w) × (b ≡ Bv w) × (ty ≡ Bv w)

truth_case : (kind : Chain) (ty : Ty) → truth_type kind ≡ Some ty → JoinedAs kind Bool Bool ty
truth_case Equal ty h = (refl, refl, sym (some_is Bool ty h))
truth_case other ty h = cc

pub concat_is : (v w : ℕ) (ty : Ty) → concat_type v w ≡ Some ty → (ty ≡ Bv (v + w)) × (v + w ≤ 64)
concat_is v w ty h = let x = if_some (nat_le (v + w) 64) (Bv (v + w)) ty h in (sym x.1, le_is (v + w) 64 x.0)

one_width : (v w : ℕ) (ty : Ty) → (if nat_eq v w then Some (Bv v) else None) ≡ Some ty → (u : ℕ) × (Bv v ≡ Bv u) × (Bv w ≡ Bv u) × (ty ≡ Bv u)
one_width v w ty h = let x = if_some (nat_eq v w) (Bv v) ty h in (v, refl, ap Bv (sym (eq_is v w x.0)), sym x.1)

bits_case : (kind : Chain) (v w : ℕ) (ty : Ty) → bits_type kind v w ≡ Some ty → JoinedAs kind (Bv v) (Bv w) ty
bits_case Equal v w ty h = cc
bits_case Joined v w ty h = let x = concat_is v w ty h in (v, w, refl, refl, x.0, x.1)
bits_case OrBits v w ty h = one_width v w ty h
bits_case Xor v w ty h = one_width v w ty h
bits_case AndBits v w ty h = one_width v w ty h
bits_case Add v w ty h = one_width v w ty h
bits_case Subtract v w ty h = one_width v w ty h
bits_case Multiply v w ty h = one_width v w ty h

pub joined_are : (kind : Chain) (a b ty : Ty) → joined_type kind a b ≡ Some ty → JoinedAs kind a b ty
joined_are kind Bool Bool ty h = truth_case kind ty h
joined_are kind (Bv v) (Bv w) ty h = bits_case kind v w ty h
joined_are kind a b ty h = cc

-- a range of bits
pub record IsRange (high low : ℕ) (ty : Ty) : Type 0 where
  pub width : ℕ
  pub is : ty ≡ Bv width
  pub order : low ≤ high
  pub within : high < width

pub range_is : (high low : ℕ) (ty : Ty) → is_range high low ty ≡ true → IsRange high low ty
range_is high low (Bv width) h =
    let both = and_true h in
    record { width = width; is = refl; order = le_is low high both.0; within = lt_is high width both.1 }
range_is high low other h = cc
