-- Lists of numbers below a bound: one that is missing where they are few, and no more of them than the bound where none stands twice.
use Rattle.std.specs.Prelude.{ℕ, zero, suc, ◌+◌, ◌<◌, ◌≤◌, ◌≡◌, ◌≢◌, Bool, true, false, not, ◌&&◌, ◌||◌, cond, nat_eq, List, [], ◌∷◌, length}
use Rattle.std.proofs.Common.{refl, sym, ap, ◌∙◌, arith, ◌⊎◌, inl, inr, subst}
use Rattle.std.proofs.lemmas.Bool.Decides.{eqb_tells}

-- a number is listed
abbrev pub has : List ℕ → ℕ → Bool
has [] n = false
has (k ∷ ks) n = nat_eq k n || has ks n

-- no number is listed twice
abbrev pub apart : List ℕ → Bool
apart [] = true
apart (k ∷ ks) = not (has ks k) && apart ks

-- every number is below the bound
abbrev pub AllBelow : ℕ → List ℕ → Type 0
AllBelow c [] = Unit {0}
AllBelow c (k ∷ ks) = (k < c) × AllBelow c ks

-- the list without a number
abbrev without : List ℕ → ℕ → List ℕ
without [] n = []
without (k ∷ ks) n = cond (nat_eq k n) (without ks n) (k ∷ without ks n)

-- a test answers, as an equation and as a fact
told : (k n : ℕ) → ((nat_eq k n ≡ true) × (k ≡ n)) ⊎ ((nat_eq k n ≡ false) × (k ≢ n))
told k n = eqb_tells k n

pub bool_tells : (b : Bool) → (b ≡ true) ⊎ (b ≡ false)
bool_tells true = inl refl
bool_tells false = inr refl

both : (a b : Bool) → (a && b) ≡ true → (a ≡ true) × (b ≡ true)
both true b h = (refl, h)
both false b h = cc

not_true : (a : Bool) → not a ≡ true → a ≡ false
not_true true h = cc
not_true false h = refl

without-length : (ks : List ℕ) (n : ℕ) → length (without ks n) ≤ length ks
without-length [] n = omega arith
without-length (k ∷ ks) n =
    elim (told k n) [
      | inl x ↦ subst (λ b. length (cond b (without ks n) (k ∷ without ks n)) ≤ length (k ∷ ks)) (sym x.0) (omega (arith, without-length ks n))
      | inr x ↦ subst (λ b. length (cond b (without ks n) (k ∷ without ks n)) ≤ length (k ∷ ks)) (sym x.0) (omega (arith, without-length ks n))
    ]

without-shorter : (ks : List ℕ) (n : ℕ) → has ks n ≡ true → length (without ks n) < length ks
without-shorter [] n h = cc
without-shorter (k ∷ ks) n h =
    elim (told k n) [
      | inl x ↦ subst (λ b. length (cond b (without ks n) (k ∷ without ks n)) < length (k ∷ ks)) (sym x.0) (omega (arith, without-length ks n))
      | inr x ↦
          let e : has ks n ≡ true = sym (ap (λ b. b || has ks n) x.0) ∙ h in
          subst (λ b. length (cond b (without ks n) (k ∷ without ks n)) < length (k ∷ ks)) (sym x.0) (omega (arith, without-shorter ks n e))
    ]

-- another number is listed after as before
without-has : (ks : List ℕ) (n m : ℕ) → m ≢ n → has (without ks n) m ≡ has ks m
without-has [] n m d = refl
without-has (k ∷ ks) n m d =
    elim (told k n) [
      | inl x ↦
          let e : nat_eq k m ≡ false = elim (told k m) [ inl y ↦ absurd (d (sym y.1 ∙ x.1)) | inr y ↦ y.0 ] in
          subst (λ b. has (cond b (without ks n) (k ∷ without ks n)) m ≡ has (k ∷ ks) m) (sym x.0) (without-has ks n m d ∙ sym (ap (λ b. b || has ks m) e))
      | inr x ↦ subst (λ b. has (cond b (without ks n) (k ∷ without ks n)) m ≡ has (k ∷ ks) m) (sym x.0) (ap (λ b. nat_eq k m || b) (without-has ks n m d))
    ]

-- where fewer are listed than there are, one is missing
pub missing : (c : ℕ) (ks : List ℕ) → length ks < c → (n : ℕ) × (n < c) × (has ks n ≡ false)
missing zero ks h = absurd (omega arith)
missing (suc c) ks h =
    elim (bool_tells (has ks c)) [
      | inl x ↦
          let r = missing c (without ks c) (omega (arith, without-shorter ks c x)) in
          (r.0, omega (arith, r.1), sym (without-has ks c r.0 (λ e. absurd (omega (arith, r.1, e)))) ∙ r.2)
      | inr x ↦ (c, omega arith, x)
    ]

without-below : (c : ℕ) (ks : List ℕ) → AllBelow (suc c) ks → AllBelow c (without ks c)
without-below c [] h = tt
without-below c (k ∷ ks) h =
    elim (told k c) [
      | inl x ↦ subst (λ b. AllBelow c (cond b (without ks c) (k ∷ without ks c))) (sym x.0) (without-below c ks h.1)
      | inr x ↦ subst (λ b. AllBelow c (cond b (without ks c) (k ∷ without ks c))) (sym x.0) (omega (arith, h.0, x.1), without-below c ks h.1)
    ]

-- what is not listed is not taken away
without-none : (ks : List ℕ) (n : ℕ) → has ks n ≡ false → length (without ks n) ≡ length ks
without-none [] n h = refl
without-none (k ∷ ks) n h =
    elim (told k n) [
      | inl x ↦ cc (sym (ap (λ b. b || has ks n) x.0) ∙ h)
      | inr x ↦
          let e : has ks n ≡ false = sym (ap (λ b. b || has ks n) x.0) ∙ h in
          subst (λ b. length (cond b (without ks n) (k ∷ without ks n)) ≡ length (k ∷ ks)) (sym x.0) (omega (arith, without-none ks n e))
    ]

without-apart : (ks : List ℕ) (n : ℕ) → apart ks ≡ true → (apart (without ks n) ≡ true) × (length ks ≤ length (without ks n) + 1)
without-apart [] n h = (refl, omega arith)
without-apart (k ∷ ks) n h =
    let t = both (not (has ks k)) (apart ks) h in
    let r = without-apart ks n t.1 in
    elim (told k n) [
      | inl x ↦
          let gone : has ks n ≡ false = ap (λ m. has ks m) (sym x.1) ∙ not_true (has ks k) t.0 in
          subst (λ b. (apart (cond b (without ks n) (k ∷ without ks n)) ≡ true) × (length (k ∷ ks) ≤ length (cond b (without ks n) (k ∷ without ks n)) + 1)) (sym x.0)
          (r.0, omega (arith, without-none ks n gone))
      | inr x ↦
          let kept : not (has (without ks n) k) ≡ true = ap not (without-has ks n k x.1) ∙ t.0 in
          subst (λ b. (apart (cond b (without ks n) (k ∷ without ks n)) ≡ true) × (length (k ∷ ks) ≤ length (cond b (without ks n) (k ∷ without ks n)) + 1)) (sym x.0)
          (ap (λ b. b && apart (without ks n)) kept ∙ r.0, omega (arith, r.1))
    ]

-- different numbers below a bound are at most as many as the bound
pub pigeonhole : (c : ℕ) (ks : List ℕ) → apart ks ≡ true → AllBelow c ks → length ks ≤ c
pigeonhole zero [] a b = omega arith
pigeonhole zero (k ∷ ks) a b = absurd (omega (arith, b.0))
pigeonhole (suc c) ks a b =
    let r = without-apart ks c a in
    omega (arith, r.1, pigeonhole c (without ks c) r.0 (without-below c ks b))
