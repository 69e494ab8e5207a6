-- The two ways in which coefficients are joined: their sum, and the sum of their multiples.
use Rattle.std.specs.Prelude.{ℕ, zero, suc, ◌<◌, length, slice_index_or, ℤ, pos, List, [], ◌∷◌, ◌++◌, Result, Ok, Err, ◌+ℤ◌, ◌*ℤ◌, ◌≡◌}
use Rattle.std.proofs.Common.{refl, sym, ap, ◌∙◌, subst, arith, inl, inr, take, get_or, map, ◌+◌}
use Rattle.std.proofs.lemmas.List.{take_more, map-append}
use Rattle.std.proofs.Math.IntN.{*ℤ_comm, zero-*ℤ}
use Rattle.std.proofs.lemmas.Int.{ints}
use Rattle.uc_linear.specs.declared.exact.Wide.{Wide}
use Rattle.uc_linear.specs.declared.exact.WideOp.TheVariants.{Add}
use Rattle.uc_linear.specs.declared.exact.LinearError.{LinearError}
use Rattle.uc_linear.specs.declared.exact.LinearError.TheVariants.{NoMemory, Wide as TooWide}
use Rattle.uc_linear.specs.Exact.{IsNarrow, AllNarrow, IsSumOf, IsProductOf, MetInTerm, exact, Leaves, IsWideOf, OnWide}
use Rattle.uc_linear.specs.Linear.{Pair, Linear, coefficient, MetInPairs, MetInMultiples, MetInTerms, MetInSum, MetInMultiple, MetInCombination, times}
use Rattle.uc_linear.proofs.Sums.{Joining}

pub zero_narrow : IsNarrow (pos 0)
zero_narrow = record { low = omega (arith, ints); high = omega (arith, ints) }

pub times_zero : (k : ℤ) → k *ℤ pos 0 ≡ pos 0
times_zero k = *ℤ_comm k (pos 0) ∙ zero-*ℤ k

pub sum_narrow : (a b : ℤ) → IsNarrow (a +ℤ b) → AllNarrow (IsSumOf a b)
sum_narrow a b h w e = subst (λ x. IsNarrow (exact x.op x.a x.b)) (sym e) h

pub product_narrow : (a b : ℤ) → IsNarrow (a *ℤ b) → AllNarrow (IsProductOf a b)
product_narrow a b h w e = subst (λ x. IsNarrow (exact x.op x.a x.b)) (sym e) h

-- the coefficients themselves, whose sum has 128 bits
abbrev pub adding : Joining
adding = record {
  left = λ z. z;
  right = λ z. z;
  joined = λ k m. IsNarrow (k +ℤ m);
  left_zero = refl;
  right_zero = refl;
  zeros = zero_narrow;
}

pub term_narrow : (p k q m : ℤ) → IsNarrow (p *ℤ k) → IsNarrow (q *ℤ m) → IsNarrow (p *ℤ k +ℤ q *ℤ m) → AllNarrow (MetInTerm p k q m)
term_narrow p k q m a b c w e = elim e [ inl x ↦ product_narrow p k a w x | inr x ↦ elim x [ inl y ↦ product_narrow q m b w y | inr y ↦ sum_narrow (p *ℤ k) (q *ℤ m) c w y ] ]

-- the multiples of the coefficients, all of whose operations have 128 bits
abbrev pub combining : ℤ → ℤ → Joining
combining p q = record {
  left = λ z. p *ℤ z;
  right = λ z. q *ℤ z;
  joined = λ k m. AllNarrow (MetInTerm p k q m);
  left_zero = times_zero p;
  right_zero = times_zero q;
  zeros = term_narrow p (pos 0) q (pos 0)
      (subst IsNarrow (sym (times_zero p)) zero_narrow) (subst IsNarrow (sym (times_zero q)) zero_narrow)
      (subst IsNarrow (sym (ap (λ z. z +ℤ q *ℤ pos 0) (times_zero p) ∙ ap (λ z. pos 0 +ℤ z) (times_zero q))) zero_narrow);
}

same_wide : (w v : Wide) → w ≡ v → ¬ IsNarrow (exact v.op v.a v.b) → Leaves w
same_wide w v e h = subst (λ x. ¬ IsNarrow (exact x.op x.a x.b)) (sym e) h

-- a sum of multiples that is too wide is met in the term
pub OnWide-sum : {A : Type 0} (p k q m : ℤ) (r : Result A LinearError) → IsWideOf r Add (p *ℤ k) (q *ℤ m) → OnWide r (MetInTerm p k q m)
OnWide-sum p k q m (Ok x) h = tt
OnWide-sum p k q m (Err NoMemory) h = tt
OnWide-sum p k q m (Err (TooWide w)) h = (same_wide w (record { op = Add; a = p *ℤ k; b = q *ℤ m }) h.0 h.1, inr (inr h.0))

-- what is met in the term of one variable is met in the terms of all
pub OnWide-terms : {A : Type 0} (p q : ℤ) (a b : List Pair) (v : ℕ) (k m : ℤ) (r : Result A LinearError) → k ≡ coefficient a v → m ≡ coefficient b v
    → OnWide r (MetInTerm p k q m) → OnWide r (MetInTerms p a q b)
OnWide-terms p q a b v k m (Ok x) e f h = tt
OnWide-terms p q a b v k m (Err NoMemory) e f h = tt
OnWide-terms p q a b v k m (Err (TooWide w)) e f h = (h.0, (v, subst (λ z. MetInTerm p (coefficient a v) q z w) f (subst (λ z. MetInTerm p z q m w) e h.1)))

-- what is met for the constants, and for the coefficients, is met in the combination
pub OnWide-constants : {A : Type 0} (p q : ℤ) (r s : Linear) (x : Result A LinearError) → OnWide x (MetInTerm p r.constant q s.constant) → OnWide x (MetInCombination p r q s)
OnWide-constants p q r s (Ok x) h = tt
OnWide-constants p q r s (Err NoMemory) h = tt
OnWide-constants p q r s (Err (TooWide w)) h = (h.0, inl h.1)

pub OnWide-pairs : {A : Type 0} (p q : ℤ) (r s : Linear) (x : Result A LinearError) → OnWide x (MetInTerms p r.pairs q s.pairs) → OnWide x (MetInCombination p r q s)
OnWide-pairs p q r s (Ok x) h = tt
OnWide-pairs p q r s (Err NoMemory) h = tt
OnWide-pairs p q r s (Err (TooWide w)) h = (h.0, inr h.1)

-- all that is met has 128 bits where both parts have
pub combination_narrow : (p q : ℤ) (r s : Linear) → AllNarrow (MetInTerm p r.constant q s.constant) → AllNarrow (MetInTerms p r.pairs q s.pairs) → AllNarrow (MetInCombination p r q s)
combination_narrow p q r s a b w h = elim h [ inl x ↦ a w x | inr x ↦ b w x ]

pub added_narrow : (a b : Linear) → IsNarrow (a.constant +ℤ b.constant) → AllNarrow (MetInPairs a.pairs b.pairs) → AllNarrow (MetInSum a b)
added_narrow a b x y w h = elim h [ inl z ↦ sum_narrow a.constant b.constant x w z | inr z ↦ y w z ]

pub multiplied_narrow : (a : Linear) (k : ℤ) → IsNarrow (a.constant *ℤ k) → AllNarrow (MetInMultiples a.pairs k) → AllNarrow (MetInMultiple a k)
multiplied_narrow a k x y w h = elim h [ inl z ↦ product_narrow a.constant k x w z | inr z ↦ y w z ]

-- the products with 0 are 0
pub zero_multiples : (a : Linear) (k : ℤ) → k ≡ pos 0 → AllNarrow (MetInMultiple a k)
zero_multiples a k e w h =
    let products : (z : ℤ) → IsNarrow (z *ℤ k) = λ z. subst IsNarrow (sym (ap (λ x. z *ℤ x) e ∙ times_zero z)) zero_narrow in
    elim h [ inl x ↦ product_narrow a.constant k (products a.constant) w x | inr x ↦ product_narrow x.0.1 k (products x.0.1) w x.2 ]

-- the sums that are met have 128 bits where each has
pub pairs_narrow : (a b : List Pair) → ((v : ℕ) → IsNarrow (coefficient a v +ℤ coefficient b v)) → AllNarrow (MetInPairs a b)
pairs_narrow a b h w m = sum_narrow (coefficient a m.0) (coefficient b m.0) (h m.0) w m.1

pub terms_narrow : (p q : ℤ) (a b : List Pair) → ((v : ℕ) → AllNarrow (MetInTerm p (coefficient a v) q (coefficient b v))) → AllNarrow (MetInTerms p a q b)
terms_narrow p q a b h w m = h m.0 w m.1

-- what is known of one pair of coefficients
pub narrow_at : (a b : List Pair) (v : ℕ) (k m : ℤ) → k ≡ coefficient a v → m ≡ coefficient b v → IsNarrow (k +ℤ m) → IsNarrow (coefficient a v +ℤ coefficient b v)
narrow_at a b v k m e f h = subst (λ z. IsNarrow (coefficient a v +ℤ z)) f (subst (λ z. IsNarrow (z +ℤ m)) e h)

pub term_at : (p q : ℤ) (a b : List Pair) (v : ℕ) (k m : ℤ) → k ≡ coefficient a v → m ≡ coefficient b v → AllNarrow (MetInTerm p k q m) → AllNarrow (MetInTerm p (coefficient a v) q (coefficient b v))
term_at p q a b v k m e f h = subst (λ z. AllNarrow (MetInTerm p (coefficient a v) q z)) f (subst (λ z. AllNarrow (MetInTerm p z q m)) e h)

pub term_same : (p q : ℤ) (a b : List Pair) (v : ℕ) (k m z : ℤ) → z ≡ p *ℤ k +ℤ q *ℤ m → k ≡ coefficient a v → m ≡ coefficient b v → z ≡ p *ℤ coefficient a v +ℤ q *ℤ coefficient b v
term_same p q a b v k m z h e f = h ∙ ap (λ x. p *ℤ x +ℤ q *ℤ m) e ∙ ap (λ x. p *ℤ coefficient a v +ℤ q *ℤ x) f

-- every product of a coefficient has 128 bits
abbrev pub NarrowProducts : ℤ → List Pair → Type 0
NarrowProducts k [] = Unit {0}
NarrowProducts k (p ∷ ps) = IsNarrow (p.1 *ℤ k) × NarrowProducts k ps

pub NarrowProducts-push : (k : ℤ) (ps : List Pair) (p : Pair) → NarrowProducts k ps → IsNarrow (p.1 *ℤ k) → NarrowProducts k (ps ++ p ∷ [])
NarrowProducts-push k [] p h n = (n, tt)
NarrowProducts-push k (q ∷ ps) p h n = (h.0, NarrowProducts-push k ps p h.1 n)

narrow_at_place : (k : ℤ) (ps : List Pair) (place : ℕ) (p : Pair) → NarrowProducts k ps → place < length ps → slice_index_or ps place p ≡ p → IsNarrow (p.1 *ℤ k)
narrow_at_place k [] place p h l e = absurd (omega arith)
narrow_at_place k (q ∷ ps) zero p h l e = subst (λ x. IsNarrow (x.1 *ℤ k)) e h.0
narrow_at_place k (q ∷ ps) (suc place) p h l e = narrow_at_place k ps place p h.1 (omega arith) e

pub multiples_narrow : (k : ℤ) (ps : List Pair) → NarrowProducts k ps → AllNarrow (MetInMultiples ps k)
multiples_narrow k ps h w m = product_narrow m.0.1 k (narrow_at_place k ps m.1.0 m.0 h m.1.1 m.1.2) w m.2

-- one more product
pub multiples_step : (k : ℤ) (ps more before : List Pair) (i : ℕ) (d q : Pair) → i < length ps → more ≡ before ++ q ∷ [] → q ≡ times k (get_or ps i d) → IsNarrow ((get_or ps i d).1 *ℤ k)
    → (before ≡ map (times k) (take i ps)) × NarrowProducts k (take i ps) → (more ≡ map (times k) (take (i + 1) ps)) × NarrowProducts k (take (i + 1) ps)
multiples_step k ps more before i d q l e f n h =
    let t = take_more ps i d l in (
      e ∙ ap (λ xs. xs ++ q ∷ []) h.0 ∙ ap (λ x. map (times k) (take i ps) ++ x ∷ []) f ∙ sym (map-append (times k) (take i ps) (get_or ps i d ∷ [])) ∙ ap (map (times k)) (sym t),
      subst (NarrowProducts k) (sym t) (NarrowProducts-push k (take i ps) (get_or ps i d) h.1 n),
    )
