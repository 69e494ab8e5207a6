-- Scalars are the same where they are equal, in either order.
use Rattle.std.specs.Prelude.{◌≡◌, ℕ, ℤ, int_lt, Bool, true, false, cond, ◌&&◌, nat_eq}
use Rattle.std.proofs.lemmas.Bool.Decides.{Decides-int_eq}
use Rattle.std.specs.Ordering.{int_eq, is_eq}
use Rattle.std.specs.declared.cmp.Ordering.TheVariants.{Less, Equal, Greater}
use Rattle.std.proofs.Common.{refl, ap, ◌∙◌, arith, sym}
use Rattle.std.proofs.lemmas.Bool.Decides.{nat_tests}
use Rattle.uc_values.specs.Values.{same_truth, same_scalar}
use Rattle.uc_values.specs.declared.value.Value.{Value}
use Rattle.uc_values.specs.declared.value.Value.TheVariants.{Bool as Truth, Int, Bv, Enum, Un}

truth-sym : (a b : Bool) → same_truth a b ≡ same_truth b a
truth-sym true true = refl
truth-sym true false = refl
truth-sym false true = refl
truth-sym false false = refl

nat-sym : (a b : ℕ) → nat_eq a b ≡ nat_eq b a
nat-sym a b = grind (arith, nat_tests)

order-sym : (less greater : Bool) → is_eq (cond less Less (cond greater Greater Equal)) ≡ is_eq (cond greater Less (cond less Greater Equal))
order-sym true true = refl
order-sym true false = refl
order-sym false true = refl
order-sym false false = refl

int-sym : (a b : ℤ) → int_eq a b ≡ int_eq b a
int-sym a b = order-sym (int_lt a b) (int_lt b a)

both-sym : (a b c d : ℕ) → (nat_eq a b && nat_eq c d) ≡ (nat_eq b a && nat_eq d c)
both-sym a b c d = ap (λ x. x && nat_eq c d) (nat-sym a b) ∙ ap (λ x. nat_eq b a && x) (nat-sym c d)

pub same_scalar-sym : (v w : Value) → same_scalar v w ≡ same_scalar w v
same_scalar-sym (Truth a) (Truth b) = truth-sym a b
same_scalar-sym (Int a) (Int b) = int-sym a b
same_scalar-sym (Bv v a) (Bv w b) = both-sym v w a b
same_scalar-sym (Enum v a) (Enum w b) = both-sym v w a b
same_scalar-sym (Un v a) (Un w b) = both-sym v w a b
same_scalar-sym v (Truth b) = refl
same_scalar-sym v (Int b) = refl
same_scalar-sym v (Bv w b) = refl
same_scalar-sym v (Enum w b) = refl
same_scalar-sym v (Un w b) = refl
same_scalar-sym v w = refl

truth-eq : (a b : Bool) → same_truth a b ≡ true → a ≡ b
truth-eq true b h = sym h
truth-eq false true h = cc
truth-eq false false h = refl

nat-eq : (a b : ℕ) → nat_eq a b ≡ true → a ≡ b
nat-eq a b h = grind (arith, nat_tests)

both_true : (a b : Bool) → (a && b) ≡ true → (a ≡ true) × (b ≡ true)
both_true true b h = (refl, h)
both_true false b h = cc

-- scalars that are the same are equal
pub same_scalar-eq : (v w : Value) → same_scalar v w ≡ true → v ≡ w
same_scalar-eq (Truth a) (Truth b) h = ap Truth (truth-eq a b h)
same_scalar-eq (Int a) (Int b) h = ap Int ((Decides-int_eq a b).0 h)
same_scalar-eq (Bv v a) (Bv w b) h = let t = both_true (nat_eq v w) (nat_eq a b) h in ap (λ x. Bv x a) (nat-eq v w t.0) ∙ ap (Bv w) (nat-eq a b t.1)
same_scalar-eq (Enum v a) (Enum w b) h = let t = both_true (nat_eq v w) (nat_eq a b) h in ap (λ x. Enum x a) (nat-eq v w t.0) ∙ ap (Enum w) (nat-eq a b t.1)
same_scalar-eq (Un v a) (Un w b) h = let t = both_true (nat_eq v w) (nat_eq a b) h in ap (λ x. Un x a) (nat-eq v w t.0) ∙ ap (Un w) (nat-eq a b t.1)
same_scalar-eq v (Truth b) h = cc
same_scalar-eq v (Int b) h = cc
same_scalar-eq v (Bv w b) h = cc
same_scalar-eq v (Enum w b) h = cc
same_scalar-eq v (Un w b) h = cc
same_scalar-eq v w h = cc
