-- Ways of steps between things.
use Rattle.std.proofs.Common.{◌≡◌, ℕ, zero, suc, Bool, true, List, sym, subst, ⊎_elim}
use Rattle.std.specs.Prelude.{◌||◌}
use Rattle.uc_rules.specs.Cycles.{leads_to}
use Rattle.uc_declared_types.specs.AliasLaw.{IsAmong}
use Rattle.uc_declared_types.proofs.Along.{any_by, any_there, either, nothing, or_left, or_right}

-- so many steps after the first one lead from a thing to another one
unfoldable pub Way : {A : Type 0} → (A → List A) → ℕ → A → A → Type 0
Way steps zero x y = IsAmong y (steps x)
Way {A} steps (suc n) x y = (z : A) × IsAmong z (steps x) × Way steps n z y

abbrev pub Goes : {A : Type 0} → (A → List A) → A → A → Type 0
Goes steps x y = (n : ℕ) × Way steps n x y

module _ {A : Type 0} (steps : A → List A) where
  pub goes_one : (x y : A) → IsAmong y (steps x) → Goes steps x y
  unfolding Way
  goes_one x y h = (0, h)

  pub goes_first : (x y z : A) → IsAmong y (steps x) → Goes steps y z → Goes steps x z
  unfolding Way
  goes_first x y z h w = (suc w.0, (y, h, w.1))

  way_on : (n : ℕ) (x y z : A) → Way steps n x y → Goes steps y z → Goes steps x z
  unfolding Way
  way_on zero x y z w g = goes_first x y z w g
  way_on (suc n) x y z w g = goes_first x w.0 z w.1 (way_on n w.0 y z w.2 g)

  pub goes_on : (x y z : A) → Goes steps x y → Goes steps y z → Goes steps x z
  goes_on x y z w g = way_on w.0 x y z w.1 g

  module _ (eq : A → A → Bool) (eq_is : (a b : A) → eq a b ≡ true → a ≡ b) (is_eq : (a : A) → eq a a ≡ true) where
    pub goes_by : (n : ℕ) (x y : A) → leads_to n steps (eq y) x ≡ true → Goes steps x y
    unfolding leads_to
    goes_by zero x y h = nothing (sym h)
    goes_by (suc n) x y h =
        let z = any_by (λ a. eq y a || leads_to n steps (eq y) a) (steps x) h in
        ⊎_elim (λ here. goes_one x y (subst (λ a. IsAmong a (steps x)) (sym (eq_is y z.0 here)) z.1)) (λ later. goes_first x z.0 y z.1 (goes_by n z.0 y later)) (either (eq y z.0) (leads_to n steps (eq y) z.0) z.2)

    pub leads_by : (n : ℕ) (x y : A) → Way steps n x y → leads_to (suc n) steps (eq y) x ≡ true
    unfolding leads_to Way
    leads_by zero x y w = any_there (λ a. eq y a || leads_to 0 steps (eq y) a) (steps x) y w (or_left (eq y y) (leads_to 0 steps (eq y) y) (is_eq y))
    leads_by (suc n) x y w =
        any_there (λ a. eq y a || leads_to (suc n) steps (eq y) a) (steps x) w.0 w.1 (or_right (eq y w.0) (leads_to (suc n) steps (eq y) w.0) (leads_by n w.0 y w.2))
