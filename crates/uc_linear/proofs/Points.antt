-- The value of a combination of forms at a point is the combination of their values.
use Rattle.std.specs.Prelude.{ℕ, zero, suc, ℤ, pos, ◌+ℤ◌, ◌*ℤ◌, ◌≡◌, ◌≢◌, ◌<◌, ◌≤◌, ◌+◌, List, [], ◌∷◌}
use Rattle.std.proofs.Common.{refl, sym, ap, ◌∙◌, subst, arith, inl, inr}
use Rattle.std.proofs.Math.IntN.{zero-*ℤ, *ℤ_comm}
use Rattle.std.proofs.lemmas.Int.{ints}
use Rattle.uc_linear.specs.Linear.{Pair, Linear, one, coefficient, sum_at, value_at, IsSum, IsMultiple, IsCombination}
use Rattle.uc_linear.proofs.Sums.{Below, one_cases, product-sum}
use Rattle.uc_linear.proofs.Dividing.{swap_factors}

-- the sum over the variables below a bound
abbrev sum_below : (ℕ → ℤ) → List Pair → ℕ → ℤ
sum_below point ps zero = pos 0
sum_below point ps (suc n) = sum_below point ps n +ℤ coefficient ps n *ℤ point n

abbrev one_below : (ℕ → ℤ) → Pair → ℕ → ℤ
one_below point p zero = pos 0
one_below point p (suc n) = one_below point p n +ℤ one p n *ℤ point n

none_below : (point : ℕ → ℤ) (n : ℕ) → sum_below point [] n ≡ pos 0
none_below point zero = refl
none_below point (suc n) = omega (arith, ints, none_below point n, zero-*ℤ (point n))

split_below : (point : ℕ → ℤ) (p : Pair) (ps : List Pair) (n : ℕ) → sum_below point (p ∷ ps) n ≡ one_below point p n +ℤ sum_below point ps n
split_below point p ps zero = omega (arith, ints)
split_below point p ps (suc n) = omega (arith, ints, split_below point p ps n, product-sum (one p n) (coefficient ps n) (point n))

one_above : (point : ℕ → ℤ) (p : Pair) (n : ℕ) → n ≤ p.0 → one_below point p n ≡ pos 0
one_above point p zero h = refl
one_above point p (suc n) h =
    elim (one_cases p n) [
      | inl x ↦ absurd (omega (arith, h, x.0))
      | inr x ↦ omega (arith, ints, one_above point p n (omega (arith, h)), ap (λ z. z *ℤ point n) x.1, zero-*ℤ (point n))
    ]

one_once : (point : ℕ → ℤ) (p : Pair) (n : ℕ) → p.0 < n → one_below point p n ≡ p.1 *ℤ point p.0
one_once point p zero h = absurd (omega (arith, h))
one_once point p (suc n) h =
    elim (one_cases p n) [
      | inl x ↦ omega (arith, ints, one_above point p n (omega (arith, x.0)), ap (λ z. z *ℤ point n) x.1, ap (λ v. p.1 *ℤ point v) x.0)
      | inr x ↦ omega (arith, ints, one_once point p n (omega (arith, h, x.0)), ap (λ z. z *ℤ point n) x.1, zero-*ℤ (point n))
    ]

-- the sum over the pairs is the sum over the variables
by_variables : (point : ℕ → ℤ) (ps : List Pair) (n : ℕ) → Below n ps → sum_at point ps ≡ sum_below point ps n
by_variables point [] n h = sym (none_below point n)
by_variables point (p ∷ ps) n h = omega (arith, ints, split_below point p ps n, one_once point p n h.0, by_variables point ps n h.1)

move_factor : (p c x : ℤ) → (p *ℤ c) *ℤ x ≡ p *ℤ (c *ℤ x)
move_factor p c x = ap (λ z. z *ℤ x) (*ℤ_comm p c) ∙ swap_factors c p x ∙ *ℤ_comm (c *ℤ x) p

factor-sum : (p a b : ℤ) → p *ℤ (a +ℤ b) ≡ p *ℤ a +ℤ p *ℤ b
factor-sum p a b = *ℤ_comm p (a +ℤ b) ∙ product-sum a b p ∙ ap (λ z. z +ℤ b *ℤ p) (*ℤ_comm a p) ∙ ap (λ z. p *ℤ a +ℤ z) (*ℤ_comm b p)

combined_below : (point : ℕ → ℤ) (p q : ℤ) (f r s : List Pair) → ((v : ℕ) → coefficient f v ≡ p *ℤ coefficient r v +ℤ q *ℤ coefficient s v) → (n : ℕ) → sum_below point f n ≡ p *ℤ sum_below point r n +ℤ q *ℤ sum_below point s n
combined_below point p q f r s h zero = omega (arith, ints, *ℤ_comm p (pos 0), *ℤ_comm q (pos 0), zero-*ℤ p, zero-*ℤ q)
combined_below point p q f r s h (suc n) =
    let x = point n in
    let k = coefficient r n in
    let m = coefficient s n in
    omega (arith, ints, combined_below point p q f r s h n, ap (λ z. z *ℤ x) (h n), product-sum (p *ℤ k) (q *ℤ m) x, move_factor p k x, move_factor q m x, factor-sum p (sum_below point r n) (k *ℤ x), factor-sum q (sum_below point s n) (m *ℤ x))

-- a bound above all variables of a list and another one
bound : List Pair → ℕ → ℕ
bound [] n = n
bound (p ∷ ps) n = bound ps (n + p.0 + 1)

bound-grows : (ps : List Pair) (n : ℕ) → n ≤ bound ps n
unfolding bound
bound-grows [] n = omega arith
bound-grows (p ∷ ps) n = omega (arith, bound-grows ps (n + p.0 + 1))

bound-above : (ps : List Pair) (n : ℕ) → Below (bound ps n) ps
unfolding bound
bound-above [] n = tt
bound-above (p ∷ ps) n = (omega (arith, bound-grows ps (n + p.0 + 1)), bound-above ps (n + p.0 + 1))

Below-up : (m n : ℕ) (ps : List Pair) → m ≤ n → Below m ps → Below n ps
Below-up m n [] l h = tt
Below-up m n (p ∷ ps) l h = (omega (arith, l, h.0), Below-up m n ps l h.1)

combined_sums : (point : ℕ → ℤ) (p q : ℤ) (f r s : List Pair) → ((v : ℕ) → coefficient f v ≡ p *ℤ coefficient r v +ℤ q *ℤ coefficient s v) → sum_at point f ≡ p *ℤ sum_at point r +ℤ q *ℤ sum_at point s
combined_sums point p q f r s h =
    let a = bound f 0 in
    let b = bound r a in
    let n = bound s b in
    let ab = bound-grows r a in
    let bn = bound-grows s b in
    by_variables point f n (Below-up a n f (omega (arith, ab, bn)) (bound-above f 0))
    ∙ combined_below point p q f r s h n
    ∙ ap (λ z. p *ℤ z +ℤ q *ℤ sum_below point s n) (sym (by_variables point r n (Below-up b n r bn (bound-above r a))))
    ∙ ap (λ z. p *ℤ sum_at point r +ℤ q *ℤ z) (sym (by_variables point s n (bound-above s b)))

pub combination-value : (point : ℕ → ℤ) (f : Linear) (p : ℤ) (r : Linear) (q : ℤ) (s : Linear) → IsCombination f p r q s → value_at point f ≡ p *ℤ value_at point r +ℤ q *ℤ value_at point s
combination-value point f p r q s c =
    omega (arith, ints, c.constant, combined_sums point p q f.pairs r.pairs s.pairs c.pairs, factor-sum p r.constant (sum_at point r.pairs), factor-sum q s.constant (sum_at point s.pairs))

one-times : (z : ℤ) → pos 1 *ℤ z ≡ z
one-times z = omega (arith, ints)

-- the value of a sum is the sum of the values
pub sum-value : (point : ℕ → ℤ) (f a b : Linear) → IsSum f a b → value_at point f ≡ value_at point a +ℤ value_at point b
sum-value point f a b c =
    let pairs : (v : ℕ) → coefficient f.pairs v ≡ pos 1 *ℤ coefficient a.pairs v +ℤ pos 1 *ℤ coefficient b.pairs v = λ v. omega (arith, ints, c.pairs v) in
    omega (arith, ints, c.constant, combined_sums point (pos 1) (pos 1) f.pairs a.pairs b.pairs pairs)

-- the value of a multiple is the multiple of the value
pub multiple-value : (point : ℕ → ℤ) (f a : Linear) (k : ℤ) → IsMultiple f a k → value_at point f ≡ value_at point a *ℤ k
multiple-value point f a k c =
    let pairs : (v : ℕ) → coefficient f.pairs v ≡ k *ℤ coefficient a.pairs v +ℤ pos 0 *ℤ coefficient a.pairs v =
    λ v. omega (arith, ints, c.pairs v, *ℤ_comm (coefficient a.pairs v) k, zero-*ℤ (coefficient a.pairs v)) in
    omega (arith, ints, c.constant, combined_sums point k (pos 0) f.pairs a.pairs a.pairs pairs, zero-*ℤ (sum_at point a.pairs), *ℤ_comm k (sum_at point a.pairs), product-sum a.constant (sum_at point a.pairs) k)
