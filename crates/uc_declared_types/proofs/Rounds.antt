-- Rounds in which ever more things pass, all of them of one list: after as many rounds as the list is long no more pass.
use Rattle.std.proofs.Common.{◌≡◌, ℕ, zero, suc, ◌+◌, ◌<◌, ◌≤◌, Bool, true, false, List, [], ◌∷◌, length, refl, ap, sym, ◌∙◌, arith, ◌⊎◌, inl, inr, ⊎_elim}
use Rattle.uc_declared_types.specs.AliasLaw.{IsAmong}

one_if : Bool → ℕ
one_if true = 1
one_if false = 0

-- how many of a list pass
passing : {A : Type 0} → (A → Bool) → List A → ℕ
passing f [] = 0
passing f (x ∷ xs) = one_if (f x) + passing f xs

one_most : (b : Bool) → one_if b ≤ 1
unfolding one_if
one_most true = omega arith
one_most false = omega arith

passing_most : {A : Type 0} (f : A → Bool) (xs : List A) → passing f xs ≤ length xs
unfolding passing
passing_most f [] = omega arith
passing_most f (x ∷ xs) = omega (arith, one_most (f x), passing_most f xs)

one_grows : (b c : Bool) → (b ≡ true → c ≡ true) → one_if b ≤ one_if c
unfolding one_if
one_grows true c h = let e : one_if c ≡ 1 = ap one_if (h refl) in omega (arith, e)
one_grows false c h = omega arith

one_same : (b c : Bool) → (b ≡ true → c ≡ true) → one_if c ≤ one_if b → b ≡ c
unfolding one_if
one_same true c h k = sym (h refl)
one_same false true h k = absurd (omega (arith, k))
one_same false false h k = refl

passing_grows : {A : Type 0} (f g : A → Bool) (xs : List A) → ((x : A) → f x ≡ true → g x ≡ true) → passing f xs ≤ passing g xs
unfolding passing
passing_grows f g [] h = omega arith
passing_grows f g (x ∷ xs) h = omega (arith, one_grows (f x) (g x) (h x), passing_grows f g xs h)

-- where no more pass, the same ones do
passing_same : {A : Type 0} (f g : A → Bool) (xs : List A) → ((x : A) → f x ≡ true → g x ≡ true) → passing g xs ≤ passing f xs → (x : A) → IsAmong x xs → f x ≡ g x
unfolding passing IsAmong
passing_same f g [] h le x there = absurd there
passing_same f g (y ∷ xs) h le x there =
    let a = one_grows (f y) (g y) (h y) in
    let b = passing_grows f g xs h in
    ⊎_elim
    (λ e. ap f e ∙ one_same (f y) (g y) (h y) (omega (arith, le, a, b)) ∙ sym (ap g e))
    (λ k. passing_same f g xs h (omega (arith, le, a, b)) x k) there

none_passes : {A : Type 0} (f : A → Bool) (xs : List A) → ((x : A) → f x ≡ false) → passing f xs ≡ 0
unfolding passing one_if
none_passes f [] h = refl
none_passes f (x ∷ xs) h = let e : one_if (f x) ≡ 0 = ap one_if (h x) in omega (arith, e, none_passes f xs h)

not_before : (b c : Bool) → (b ≡ true → c ≡ true) → c ≡ false → b ≡ c
not_before true c h e = sym (h refl)
not_before false c h e = sym e

compared : (a b : ℕ) → (a ≤ b) ⊎ (b < a)
compared zero b = inl (omega arith)
compared (suc a) zero = inr (omega arith)
compared (suc a) (suc b) = ⊎_elim (λ x. inl (omega (arith, x))) (λ x. inr (omega (arith, x))) (compared a b)

-- What is known of rounds: none passes in the first one, what passes passes in the next one too, all that pass are of the list, and where a
-- round is the same as the next one, so is the next one.
pub record Rounds {A : Type 0} (round : ℕ → A → Bool) (nodes : List A) : Type 0 where
  pub begins : (x : A) → round 0 x ≡ false
  pub grows : (n : ℕ) (x : A) → round n x ≡ true → round (suc n) x ≡ true
  pub within : (n : ℕ) (x : A) → round n x ≡ true → IsAmong x nodes
  pub stays : (n : ℕ) → ((x : A) → round n x ≡ round (suc n) x) → (x : A) → round (suc n) x ≡ round (suc (suc n)) x

module _ {A : Type 0} (round : ℕ → A → Bool) (nodes : List A) (known : Rounds round nodes) where
  abbrev IsStable : ℕ → Type 0
  IsStable n = (x : A) → round n x ≡ round (suc n) x

  abbrev count : ℕ → ℕ
  count n = passing (round n) nodes

  no_more : (n : ℕ) → count (suc n) ≤ count n → IsStable n
  no_more n h x = by (round (suc n) x) refl
    where
      by : (b : Bool) → round (suc n) x ≡ b → round n x ≡ round (suc n) x
      by true e = passing_same (round n) (round (suc n)) nodes (known.grows n) h x (known.within (suc n) x e)
      by false e = not_before (round n x) (round (suc n) x) (known.grows n x) e

  first : (count 1 ≤ 0) ⊎ (0 < count 1) → IsStable 0 ⊎ (0 < count 1)
  first (inl x) = let none : count 0 ≡ 0 = none_passes (round 0) nodes known.begins in inl (no_more 0 (omega (arith, x, none)))
  first (inr x) = inr x

  next : (n : ℕ) → n < count (suc n) → (count (suc (suc n)) ≤ suc n) ⊎ (suc n < count (suc (suc n))) → IsStable (suc n) ⊎ (suc n < count (suc (suc n)))
  next n l (inl x) = inl (no_more (suc n) (omega (arith, l, x)))
  next n l (inr x) = inr x

  -- a round is the same as the next one, or more than so many pass
  progress : (n : ℕ) → IsStable n ⊎ (n < count (suc n))
  progress zero = first (compared (count 1) 0)
  progress (suc n) = ⊎_elim (λ s. inl (known.stays n s)) (λ l. next n l (compared (count (suc (suc n))) (suc n))) (progress n)

  pub settled : (n : ℕ) → length nodes ≤ n → (x : A) → round n x ≡ round (suc n) x
  settled n enough = ⊎_elim (λ s. s) (λ l. absurd (omega (arith, l, enough, passing_most (round (suc n)) nodes))) (progress n)
