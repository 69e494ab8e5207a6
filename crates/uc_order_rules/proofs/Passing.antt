-- Ways of steps, and ways in the graph that carries them.
use Rattle.std.proofs.Common.{◌≡◌, ◌↔◌, ℕ, zero, suc, ◌<◌, ◌≤◌, true, List, [], ◌∷◌, length, Option, Some, refl, sym, subst, ◌∙◌, ◌⊎◌, inl, inr, ⊎_elim, arith}
use Rattle.std.specs.Prelude.{nat_eq, ◌||◌}
use Rattle.uc_rules.specs.Cycles.{leads_to}
use Rattle.uc_declared_types.specs.AliasLaw.{IsAmong}
use Rattle.uc_declared_types.proofs.Along.{any_by, any_there, either, nothing, or_left, or_right}
use Rattle.uc_declared_types.proofs.Following.{followed}
use Rattle.uc_graph.specs.Cycles.{IsWay, LeadsTo, LiesOnCycle}
use Rattle.uc_graph.proofs.GraphCyclesWays.{by_edge, leads_on, one_more}
use Rattle.uc_order_rules.specs.Passages.{IsPassage, Passes, Carries, CyclesArePassed}

equal : (n m : ℕ) → nat_eq n m ≡ true → n ≡ m
equal n m h = grind (arith, h)

same : (n : ℕ) → nat_eq n n ≡ true
same n = grind arith

side : (n m : ℕ) → (n < m) ⊎ (m ≤ n)
side n zero = inr (omega arith)
side zero (suc m) = inl (omega arith)
side (suc n) (suc m) = elim (side n m) [ inl l ↦ inl (omega (arith, l)) | inr r ↦ inr (omega (arith, r)) ]

-- the numbers below one
numbers : ℕ → List ℕ
numbers zero = []
numbers (suc n) = n ∷ numbers n

numbers_length : (n : ℕ) → length (numbers n) ≡ n
unfolding numbers
numbers_length zero = refl
numbers_length (suc n) = let e = numbers_length n in omega (arith, e)

in_numbers : (n x : ℕ) → x < n → IsAmong x (numbers n)
unfolding numbers IsAmong
in_numbers zero x h = absurd (omega (arith, h))
in_numbers (suc n) x h = elim (side x n) [ inl l ↦ inr (in_numbers n x l) | inr r ↦ inl (omega (arith, h, r)) ]

some_same : (n m : ℕ) → Some n ≡ Some m → n ≡ m
some_same n m h = cc

module _ (graph : List (List ℕ)) (count bound : ℕ) (node : ℕ → Option ℕ) (steps : ℕ → List ℕ) (carried : Carries graph count node steps) (inside : (x y : ℕ) → IsAmong y (steps x) → x < bound) where
  passage_leads : (k x y : ℕ) → IsPassage graph count k x y → LeadsTo graph x y
  unfolding IsPassage
  passage_leads zero x y e = by_edge graph x y e
  passage_leads (suc k) x y p = one_more graph x p.0 y (passage_leads k x p.0 p.1) p.3

  abbrev Led : ℕ → ℕ → Type 0
  Led n t = (m : ℕ) × (node t ≡ Some m) × LeadsTo graph n m

  step_leads : (x y n : ℕ) → node x ≡ Some n → IsAmong y (steps x) → Led n y
  step_leads x y n at h = let p = carried.there x y n at h in (p.0, p.1, passage_leads p.2.0 n p.0 p.2.1)

  there : (t k x n : ℕ) → node x ≡ Some n → leads_to k steps (nat_eq t) x ≡ true → Led n t
  unfolding leads_to
  there t zero x n at h = nothing (sym h)
  there t (suc k) x n at h =
      let y = any_by (λ y. nat_eq t y || leads_to k steps (nat_eq t) y) (steps x) h in
      let e = step_leads x y.0 n at y.1 in
      ⊎_elim
      (λ here. subst (λ z. Led n z) (sym (equal t y.0 here)) e)
      (λ later. let w = there t k y.0 e.0 e.1 later in (w.0, w.1, leads_on graph n e.0 w.0 e.2 w.2))
      (either (nat_eq t y.0) (leads_to k steps (nat_eq t) y.0) y.2)

  -- the last of the first nodes that a way passes, if it passes one
  abbrev LastPassed : ℕ → ℕ → ℕ → Type 0
  LastPassed l x y = (k : ℕ) × (z : ℕ) × (k < l) × (z < count) × IsWay graph k x z × Passes graph count z y

  split : (l x y : ℕ) → IsWay graph l x y → Passes graph count x y ⊎ LastPassed l x y
  unfolding IsWay IsPassage
  split zero x y e = inl (zero, e)
  split (suc l) x y w =
      ⊎_elim
      (λ first. inr (l, w.0, omega arith, first, w.1, (zero, w.2)))
      (λ between.
      ⊎_elim
      (λ p. inl (suc p.0, (w.0, p.1, between, w.2)))
      (λ p. inr (p.0, p.1, omega (arith, p.2), p.3, p.4, (suc p.5.0, (w.0, p.5.1, between, w.2))))
      (split l x w.0 w.1))
      (side w.0 count)

  abbrev Found : ℕ → ℕ → Type 0
  Found x y = (k : ℕ) × (leads_to k steps (nat_eq y) x ≡ true)

  found_one : (x y : ℕ) → IsAmong y (steps x) → Found x y
  unfolding leads_to
  found_one x y h = (1, any_there (λ z. nat_eq y z || leads_to zero steps (nat_eq y) z) (steps x) y h (or_left (nat_eq y y) (leads_to zero steps (nat_eq y) y) (same y)))

  found_first : (x z y : ℕ) → IsAmong z (steps x) → Found z y → Found x y
  unfolding leads_to
  found_first x z y h f =
      (suc f.0, any_there (λ v. nat_eq y v || leads_to f.0 steps (nat_eq y) v) (steps x) z h (or_right (nat_eq y z) (leads_to f.0 steps (nat_eq y) z) f.1))

  found_last : (k x z y : ℕ) → leads_to k steps (nat_eq z) x ≡ true → IsAmong y (steps z) → Found x y
  unfolding leads_to
  found_last zero x z y h e = nothing (sym h)
  found_last (suc k) x z y h e =
      let v = any_by (λ v. nat_eq z v || leads_to k steps (nat_eq z) v) (steps x) h in
      found_first x v.0 y v.1
      (⊎_elim
      (λ here. found_one v.0 y (subst (λ w. IsAmong y (steps w)) (equal z v.0 here) e))
      (λ later. found_last k v.0 z y later e)
      (either (nat_eq z v.0) (leads_to k steps (nat_eq z) v.0) v.2))

  abbrev Reached : ℕ → ℕ → Type 0
  Reached x m = (y : ℕ) × (node y ≡ Some m) × Found x y

  back : (fuel l x n m : ℕ) → l < fuel → node x ≡ Some n → m < count → IsWay graph l n m → Reached x m
  back zero l x n m less at end w = absurd (omega (arith, less))
  back (suc fuel) l x n m less at end w =
      ⊎_elim
      (λ p. let y = carried.only x n m at end p in (y.0, y.1, found_one x y.0 y.2))
      (λ p.
      let z = back fuel p.0 x n p.1 (omega (arith, less, p.2)) at p.3 p.4 in
      let y = carried.only z.0 p.1 m z.1 end p.5 in
      (y.0, y.1, found_last z.2.0 x z.0 y.0 z.2.1 y.2))
      (split l n m w)

  covers : (x y : ℕ) → IsAmong y (steps x) → IsAmong x (numbers bound)
  covers x y h = in_numbers bound x (inside x y h)

  pub cycle_is : (x n : ℕ) → node x ≡ Some n → (leads_to bound steps (nat_eq x) x ≡ true) ↔ LiesOnCycle graph n
  cycle_is x n at = (
    (λ h. let w = there x bound x n at h in subst (λ m. LeadsTo graph n m) (some_same w.0 n (sym w.1 ∙ at)) w.2),
    (λ w.
        let r = back (suc w.0) w.0 x n n (omega arith) at (carried.within x n at) w.1 in
        let f = subst (λ y. Found x y) (carried.alone r.0 x n r.1 at) r.2 in
        followed steps (nat_eq x) (numbers bound) covers bound (omega (arith, numbers_length bound)) f.0 x f.1),
  )

pub cycles_are_passed : CyclesArePassed
cycles_are_passed graph count bound node steps carried inside x n at = cycle_is graph count bound node steps carried inside x n at
