-- Common divisors of coefficients, quotients by them, and rows that are tightened.
use Rattle.std.specs.Prelude.{ℕ, zero, suc, ℤ, pos, negsuc, neg_ℤ, ◌+ℤ◌, ◌-ℤ◌, ◌*ℤ◌, ◌≤ℤ◌, ◌<ℤ◌, unsigned_abs, ◌≡◌, ◌≢◌, ◌<◌, ◌≤◌, ◌+◌, ◌*◌, ◌/◌, ◌%◌, min, List, [], ◌∷◌, ◌++◌, length, map}
use Rattle.std.specs.Int.{◌∣◌, IsGcd}
use Rattle.std.proofs.Common.{refl, sym, ap, ◌∙◌, subst, arith, take, drop, get_or, set}
use Rattle.std.proofs.Math.IntN.{zero-*ℤ, *ℤ_comm, suc_ℤ-*ℤ, pred_ℤ-*ℤ, pos-*ℤ-pos, negsuc-*ℤ-pos}
use Rattle.std.proofs.Math.Nat.{div-mul_cancel, div-mul-le_self, lt-div-mul-add, mul-le-mul_left, one-dvd, eq-zero_of_zero-dvd}
use Rattle.std.proofs.lemmas.Nat.Gcd.{dvd_trans, le_of_dvd, dvd-zero}
use Rattle.std.proofs.lemmas.Grind.{div_ceil_times}
use Rattle.std.proofs.lemmas.Int.{ints}
use Rattle.std.proofs.lemmas.List.{take_more}
use Rattle.uc_linear.specs.Linear.{Pair, Linear, Rises, sum_at, value_at, Satisfies, times}
use Rattle.uc_linear.specs.Tightening.{DividesAll, IsGreatestDivisor, IsCeiling, IsTightened, Tightens, SamePoints, toward_zero, over}
use Rattle.uc_linear.proofs.Sums.{product-sum}

divides_push : (d : ℕ) (ps : List Pair) (p : Pair) → DividesAll d ps → d ∣ unsigned_abs p.1 → DividesAll d (ps ++ p ∷ [])
divides_push d [] p h e = (e, tt)
divides_push d (q ∷ ps) p h e = (h.0, divides_push d ps p h.1 e)

divides_front : (d : ℕ) (ps : List Pair) (p : Pair) → DividesAll d (ps ++ p ∷ []) → DividesAll d ps × (d ∣ unsigned_abs p.1)
divides_front d [] p h = (tt, h.0)
divides_front d (q ∷ ps) p h = let r = divides_front d ps p h.1 in ((h.0, r.0), r.1)

divides_trans : (d g : ℕ) (ps : List Pair) → d ∣ g → DividesAll g ps → DividesAll d ps
divides_trans d g [] e h = tt
divides_trans d g (p ∷ ps) e h = (dvd_trans d e h.0, divides_trans d g ps e h.1)

pub greatest_begin : IsGreatestDivisor 0 []
greatest_begin = record { divides = tt; greatest = λ d h. dvd-zero d }

pub greatest_push : (g k : ℕ) (ps : List Pair) (p : Pair) → IsGreatestDivisor g ps → IsGcd g (unsigned_abs p.1) k → IsGreatestDivisor k (ps ++ p ∷ [])
greatest_push g k ps p h e = record {
  divides = divides_push k ps p (divides_trans k g ps e.0 h.divides) e.1;
  greatest = λ d f. let r = divides_front d ps p f in e.2 d (h.greatest d r.0) r.1;
}

-- one more coefficient is taken into the divisor
pub greatest_step : (g k size : ℕ) (ps : List Pair) (i : ℕ) (d : Pair) → i < length ps → IsGreatestDivisor g (take i ps) → size ≡ unsigned_abs (get_or ps i d).1 → IsGcd g size k → IsGreatestDivisor k (take (i + 1) ps)
greatest_step g k size ps i d l h e f =
    subst (IsGreatestDivisor k) (sym (take_more ps i d l)) (greatest_push g k (take i ps) (get_or ps i d) h (subst (λ n. IsGcd g n k) e f))

one_divides : (n : ℕ) → 1 ∣ n
one_divides n = one-dvd n

divides_one : (ps : List Pair) → DividesAll 1 ps
divides_one [] = tt
divides_one (p ∷ ps) = (one_divides (unsigned_abs p.1), divides_one ps)

divides_take : (d i : ℕ) (ps : List Pair) → DividesAll d ps → DividesAll d (take i ps)
divides_take d zero ps h = tt
divides_take d (suc i) [] h = tt
divides_take d (suc i) (p ∷ ps) h = (h.0, divides_take d i ps h.1)

-- 1 stays the greatest divisor of longer lists
pub greatest_one : (i : ℕ) (ps : List Pair) → IsGreatestDivisor 1 (take i ps) → IsGreatestDivisor 1 ps
greatest_one i ps h = record { divides = divides_one ps; greatest = λ d f. h.greatest d (divides_take d i ps f) }

zero_divides : (n : ℕ) → 0 ∣ n → n ≡ 0
zero_divides n h = eq-zero_of_zero-dvd h

neg_times : (q d : ℕ) → neg_ℤ (pos q) *ℤ pos d ≡ neg_ℤ (pos (q * d))
neg_times zero d = let e : zero ≡ zero * d = omega arith in zero-*ℤ (pos d) ∙ ap (λ k. neg_ℤ (pos k)) e
neg_times (suc q) d = negsuc-*ℤ-pos q d

-- the quotient of a number by a divisor of it
pub exact_quotient : (z : ℤ) (d : ℕ) → d ∣ unsigned_abs z → z ≡ toward_zero z d *ℤ pos d
exact_quotient (pos n) d h = ap pos (sym (div-mul_cancel d h)) ∙ sym (pos-*ℤ-pos (n / d) d)
exact_quotient (negsuc n) d h = ap (λ k. neg_ℤ (pos k)) (sym (div-mul_cancel d h)) ∙ sym (neg_times (suc n / d) d)

-- a half at most
pub quotient_small : (n d : ℕ) → 1 < d → 2 * (n / d) ≤ n
quotient_small n d h = omega (arith, div-mul-le_self n d, mul-le-mul_left (n / d) h)

pub ceiling_pos : (n d q : ℕ) → 0 < d → q ≡ n / d + min 1 (n % d) → IsCeiling (pos n) d (pos q)
ceiling_pos n d q h e =
    let t = div_ceil_times n d h in
    let p = pos-*ℤ-pos q d in
    let low : n ≤ q * d = subst (λ k. n ≤ k * d) (sym e) t.0 in
    let high : q * d < n + d = subst (λ k. k * d < n + d) (sym e) t.1 in
    record { enough = omega (arith, ints, p, low); least = omega (arith, ints, p, high) }

pub ceiling_neg : (n d : ℕ) → 0 < d → IsCeiling (negsuc n) d (neg_ℤ (pos (suc n / d)))
ceiling_neg n d h =
    let p = neg_times (suc n / d) d in
    let low = div-mul-le_self (suc n) d in
    let high = lt-div-mul-add {a = suc n} {b = d} h in
    record { enough = omega (arith, ints, p, low); least = omega (arith, ints, p, high) }

-- the coefficients, divided
pub over-times : (g : ℕ) (ps : List Pair) → DividesAll g ps → ps ≡ map (times (pos g)) (map (over g) ps)
over-times g [] h = refl
over-times g (p ∷ ps) h = ap (λ k. (p.0, k) ∷ ps) (exact_quotient p.1 g h.0) ∙ ap (λ xs. times (pos g) (over g p) ∷ xs) (over-times g ps h.1)

pub Rises-over : (g low : ℕ) (ps : List Pair) → DividesAll g ps → Rises low ps → Rises low (map (over g) ps)
Rises-over g low [] h r = tt
Rises-over g low (p ∷ ps) h r =
    (r.0, (λ e. r.1 (exact_quotient p.1 g h.0 ∙ ap (λ k. k *ℤ pos g) e ∙ zero-*ℤ (pos g))), Rises-over g (p.0 + 1) ps h.1 r.2)

-- one more coefficient is divided in its place
pub divide_step : (f : Pair → Pair) (ps : List Pair) (i j : ℕ) (d : Pair) → i < length ps → j ≡ suc i → set (map f (take i ps) ++ drop i ps) i (f (get_or ps i d)) ≡ map f (take j ps) ++ drop j ps
divide_step f [] i j d h e = absurd (omega arith)
divide_step f (p ∷ ps) zero j d h e = ap (λ k. map f (take k (p ∷ ps)) ++ drop k (p ∷ ps)) (sym e)
divide_step f (p ∷ ps) (suc i) j d h e =
    ap (λ xs. f p ∷ xs) (divide_step f ps i (suc i) d (omega arith) refl) ∙ ap (λ k. map f (take k (p ∷ ps)) ++ drop k (p ∷ ps)) (sym e)

place_kept : (f : Pair → Pair) (ps : List Pair) (i : ℕ) (d : Pair) → i < length ps → get_or (map f (take i ps) ++ drop i ps) i d ≡ get_or ps i d
place_kept f [] i d h = absurd (omega arith)
place_kept f (p ∷ ps) zero d h = refl
place_kept f (p ∷ ps) (suc i) d h = place_kept f ps i d (omega arith)

pub divide_set : (f : Pair → Pair) (ps items : List Pair) (i : ℕ) (q x : Pair) → i < length ps → items ≡ map f (take i ps) ++ drop i ps → x ≡ get_or items i x → q ≡ f x → set items i q ≡ map f (take (i + 1) ps) ++ drop (i + 1) ps
divide_set f ps items i q x h e g k =
    let same : x ≡ get_or ps i x = g ∙ ap (λ xs. get_or xs i x) e ∙ place_kept f ps i x h in
    ap (λ xs. set xs i q) e ∙ ap (λ y. set (map f (take i ps) ++ drop i ps) i y) (k ∙ ap f same) ∙ divide_step f ps i (i + 1) x h (omega arith)

-- the factors of a product change places
product-difference : (a b k : ℤ) → (a -ℤ b) *ℤ k ≡ a *ℤ k -ℤ b *ℤ k
product-difference a b k =
    let e : (a -ℤ b) +ℤ b ≡ a = omega (arith, ints) in
    omega (arith, ints, product-sum (a -ℤ b) b k, ap (λ z. z *ℤ k) e)

pub swap_factors : (a g x : ℤ) → (a *ℤ g) *ℤ x ≡ (a *ℤ x) *ℤ g
swap_factors (pos zero) g x = ap (λ z. z *ℤ x) (zero-*ℤ g) ∙ zero-*ℤ x ∙ sym (ap (λ z. z *ℤ g) (zero-*ℤ x) ∙ zero-*ℤ g)
swap_factors (pos (suc n)) g x =
    let l : pos (suc n) *ℤ g ≡ pos n *ℤ g +ℤ g = omega (arith, ints, suc_ℤ-*ℤ (pos n) g) in
    let r : pos (suc n) *ℤ x ≡ pos n *ℤ x +ℤ x = omega (arith, ints, suc_ℤ-*ℤ (pos n) x) in
    ap (λ z. z *ℤ x) l ∙ omega (arith, ints, product-sum (pos n *ℤ g) g x, product-sum (pos n *ℤ x) x g, swap_factors (pos n) g x, *ℤ_comm g x) ∙ ap (λ z. z *ℤ g) (sym r)
swap_factors (negsuc zero) g x =
    let l : negsuc zero *ℤ g ≡ pos 0 -ℤ g = omega (arith, ints, pred_ℤ-*ℤ (pos 0) g, zero-*ℤ g) in
    let r : negsuc zero *ℤ x ≡ pos 0 -ℤ x = omega (arith, ints, pred_ℤ-*ℤ (pos 0) x, zero-*ℤ x) in
    ap (λ z. z *ℤ x) l ∙ omega (arith, ints, product-difference (pos 0) g x, product-difference (pos 0) x g, zero-*ℤ x, zero-*ℤ g, *ℤ_comm g x) ∙ ap (λ z. z *ℤ g) (sym r)
swap_factors (negsuc (suc n)) g x =
    let l : negsuc (suc n) *ℤ g ≡ negsuc n *ℤ g -ℤ g = omega (arith, ints, pred_ℤ-*ℤ (negsuc n) g) in
    let r : negsuc (suc n) *ℤ x ≡ negsuc n *ℤ x -ℤ x = omega (arith, ints, pred_ℤ-*ℤ (negsuc n) x) in
    ap (λ z. z *ℤ x) l ∙ omega (arith, ints, product-difference (negsuc n *ℤ g) g x, product-difference (negsuc n *ℤ x) x g, swap_factors (negsuc n) g x, *ℤ_comm g x) ∙ ap (λ z. z *ℤ g) (sym r)

-- the value of a multiple is the multiple of the value
pub sum_at-times : (point : ℕ → ℤ) (g : ℤ) (ps : List Pair) → sum_at point (map (times g) ps) ≡ sum_at point ps *ℤ g
sum_at-times point g [] = sym (zero-*ℤ g)
sum_at-times point g (p ∷ ps) =
    omega (arith, ints, swap_factors p.1 g (point p.0), sum_at-times point g ps, product-sum (p.1 *ℤ point p.0) (sum_at point ps) g)

-- multiples by a positive number
multiple_low : (z : ℤ) (g : ℕ) → z ≤ℤ pos 0 → (z *ℤ pos g) ≤ℤ pos 0
multiple_low (pos zero) g h = omega (arith, ints, zero-*ℤ (pos g))
multiple_low (pos (suc n)) g h = absurd (omega (arith, ints, h))
multiple_low (negsuc n) g h = omega (arith, ints, negsuc-*ℤ-pos n g)

multiple_small : (z : ℤ) (g : ℕ) → (z *ℤ pos g) <ℤ pos g → z ≤ℤ pos 0
multiple_small (pos zero) g h = omega (arith, ints)
multiple_small (pos (suc n)) g h = absurd (omega (arith, ints, h, pos-*ℤ-pos (suc n) g))
multiple_small (negsuc n) g h = omega (arith, ints)

-- the same points satisfy a row and the tightened one
points_tightened : (new old : Linear) → IsTightened new old → SamePoints new old
points_tightened new old t point =
    let g = pos t.divisor in
    let sum : sum_at point old.pairs ≡ sum_at point new.pairs *ℤ g = ap (sum_at point) t.pairs ∙ sum_at-times point g new.pairs in
    let whole = product-sum new.constant (sum_at point new.pairs) g in (
      (λ h. omega (arith, ints, sum, whole, t.constant.enough, multiple_low (value_at point new) t.divisor h)),
      (λ h. multiple_small (value_at point new) t.divisor (omega (arith, ints, sum, whole, t.constant.least, h))),
    )

pub points_same : (new old : Linear) (ps : List Pair) → Tightens new old ps → SamePoints new old
points_same new old [] t point = (λ h. subst (Satisfies point) t h, λ h. subst (Satisfies point) (sym t) h)
points_same new old (p ∷ ps) t point = points_tightened new old t point

-- a greatest divisor above 0 has a coefficient that it divides
no_pairs : (g : ℕ) → 0 < g → IsGreatestDivisor g [] → ⊥
no_pairs g h e = omega (arith, le_of_dvd h (e.greatest (g + 1) tt))

pub tightened_cases : (new old : Linear) (g : ℕ) (ps : List Pair) → 1 < g → IsGreatestDivisor g ps → IsTightened new old → Tightens new old ps
tightened_cases new old g [] h e t = absurd (no_pairs g (omega (arith, h)) e)
tightened_cases new old g (p ∷ ps) h e t = t

pub tightened : (new old : Linear) (g : ℕ) → 1 < g → IsGreatestDivisor g old.pairs → new.pairs ≡ map (over g) old.pairs → IsCeiling old.constant g new.constant → Tightens new old old.pairs
tightened new old g h e f k =
    tightened_cases new old g old.pairs h e (record { divisor = g; greatest = e; pairs = over-times g old.pairs e.divides ∙ ap (map (times (pos g))) (sym f); constant = k })

times_one : (ps : List Pair) → ps ≡ map (times (pos 1)) ps
times_one [] = refl
times_one (p ∷ ps) = let e : p.1 ≡ p.1 *ℤ pos 1 = omega (arith, ints) in ap (λ k. (p.0, k) ∷ ps) e ∙ ap (λ xs. times (pos 1) p ∷ xs) (times_one ps)

ceiling_one : (z : ℤ) → IsCeiling z 1 z
ceiling_one z = record { enough = omega (arith, ints); least = omega (arith, ints) }

nonzero_size : (z : ℤ) → z ≢ pos 0 → 0 < unsigned_abs z
nonzero_size (pos zero) h = absurd (h refl)
nonzero_size (pos (suc n)) h = omega arith
nonzero_size (negsuc n) h = omega arith

-- without a divisor above 1 the row is tight
pub tight : (f : Linear) (g : ℕ) (ps : List Pair) → f.pairs ≡ ps → g ≤ 1 → Rises 0 ps → IsGreatestDivisor g ps → Tightens f f ps
tight f g [] e h r d = refl
tight f zero (p ∷ ps) e h r d = absurd (omega (arith, nonzero_size p.1 r.1, zero_divides (unsigned_abs p.1) d.divides.0))
tight f (suc zero) (p ∷ ps) e h r d = record { divisor = 1; greatest = subst (IsGreatestDivisor 1) (sym e) d; pairs = times_one f.pairs; constant = ceiling_one f.constant }
tight f (suc (suc g)) (p ∷ ps) e h r d = absurd (omega arith)
