-- Lists of slots in which none stands twice.
use Rattle.std.proofs.Common.{◌≡◌, ◌≢◌, ℕ, zero, suc, ◌<◌, ◌≤◌, ◌⊎◌, inl, inr, false, not, List, [], ◌∷◌, ◌++◌, length, get_or, refl, sym, ◌∙◌, ap, arith, cond, Bool, true}
use Rattle.std.specs.Prelude.{All, AllPairs, Contains, filter, eqb}
use Rattle.std.specs.List.{AllByRecursion, IsDistinct}
use Rattle.std.proofs.lemmas.Bool.{eq-eqb, eqb-true, ne_eqb}
use Rattle.std.proofs.lemmas.List.{get_or_default}
use Rattle.std.proofs.lemmas.List.Elements.{All-nil, All-cons, All-head, All-tail, All-contains, All-append, Contains-append_left, Contains-append_right, Contains-append_cases, Contains-get_or}
use Rattle.std.proofs.lemmas.List.Kept.{AllPairs-cons}
use Rattle.std.proofs.lemmas.Map.Steps.{length-le_from_distinct_below}
use Rattle.std.proofs.lemmas.Map.Views.{Contains-from_any}
use Rattle.uc_rings.specs.Links.{NoneTwice}

abbrev pub Away : ℕ → List ℕ → Type 0
Away s xs = All (λ x. x ≢ s) xs

pub away_from_none : (s : ℕ) (xs : List ℕ) → (Contains xs s → ⊥) → Away s xs
away_from_none s xs none k d h e = none (k, h, get_or_default xs k s d h ∙ e)

pub none_from_away : (s : ℕ) (xs : List ℕ) → Away s xs → Contains xs s → ⊥
none_from_away s xs away there = All-contains (λ x. x ≢ s) xs s away there refl

pub All-left : {X : Type 0} (P : X → Type 0) (xs ys : List X) → All P (xs ++ ys) → All P xs
All-left P xs ys all k d h = All-contains P (xs ++ ys) (get_or xs k d) all (Contains-append_left xs ys (get_or xs k d) (Contains-get_or xs k d h))

pub All-right : {X : Type 0} (P : X → Type 0) (xs ys : List X) → All P (xs ++ ys) → All P ys
All-right P xs ys all k d h = All-contains P (xs ++ ys) (get_or ys k d) all (Contains-append_right xs ys (get_or ys k d) (Contains-get_or ys k d h))

pub Contains-cons_cases : (x : ℕ) (xs : List ℕ) (s : ℕ) → Contains (x ∷ xs) s → (s ≡ x) ⊎ Contains xs s
Contains-cons_cases x xs s there = by_place there.0 there.1 there.2 where
  by_place : (k : ℕ) → k < length (x ∷ xs) → get_or (x ∷ xs) k s ≡ s → (s ≡ x) ⊎ Contains xs s
  by_place zero h e = inl (sym e)
  by_place (suc k) h e = inr (k, omega arith, e)

pub Contains-here : (x : ℕ) (xs : List ℕ) → Contains (x ∷ xs) x
Contains-here x xs = (0, omega arith, refl)

pub Contains-later : (x : ℕ) (xs : List ℕ) (s : ℕ) → Contains xs s → Contains (x ∷ xs) s
Contains-later x xs s there = Contains-append_right (x ∷ []) xs s there

-- the list round a slot of it
pub record Split (xs : List ℕ) (s : ℕ) : Type 0 where
  pub before : List ℕ
  pub after : List ℕ
  pub is : xs ≡ before ++ s ∷ after

pub split : (xs : List ℕ) (s : ℕ) → Contains xs s → Split xs s
split [] s there = absurd (let h = there.1 in omega arith)
split (x ∷ xs) s there =
    elim (Contains-cons_cases x xs s there) [
      | inl here ↦ record { before = []; after = xs; is = ap (λ y. y ∷ xs) (sym here) }
      | inr later ↦
          let rest : Split xs s = split xs s later in
          record { before = x ∷ rest.before; after = rest.after; is = ap (λ ys. x ∷ ys) rest.is }
    ]

-- a slot that stands between two parts is in neither, and without it none stands twice
pub apart_before : (before : List ℕ) (s : ℕ) (after : List ℕ) → NoneTwice (before ++ s ∷ after) → Away s before
apart_before [] s after apart = All-nil (λ x. x ≢ s)
apart_before (x ∷ before) s after apart =
    let other : s ≢ x = All-contains (λ y. y ≢ x) (before ++ s ∷ after) s apart.0 (Contains-append_right before (s ∷ after) s (Contains-here s after)) in
    All-cons (λ y. y ≢ s) x before (λ e. other (sym e)) (apart_before before s after apart.1)

pub apart_after : (before : List ℕ) (s : ℕ) (after : List ℕ) → NoneTwice (before ++ s ∷ after) → Away s after
apart_after [] s after apart = apart.0
apart_after (x ∷ before) s after apart = apart_after before s after apart.1

pub apart_out : (before : List ℕ) (s : ℕ) (after : List ℕ) → NoneTwice (before ++ s ∷ after) → NoneTwice (before ++ after)
apart_out [] s after apart = apart.1
apart_out (x ∷ before) s after apart = (
  All-append (λ y. y ≢ x) before after (All-left (λ y. y ≢ x) before (s ∷ after) apart.0)
      (All-tail (λ y. y ≢ x) s after (All-right (λ y. y ≢ x) before (s ∷ after) apart.0)),
  apart_out before s after apart.1,
)

pub Contains-out : (before : List ℕ) (s : ℕ) (after : List ℕ) (t : ℕ) → t ≢ s → Contains (before ++ s ∷ after) t → Contains (before ++ after) t
Contains-out before s after t ne there =
    elim (Contains-append_cases before (s ∷ after) t there) [
      | inl left ↦ Contains-append_left before after t left
      | inr right ↦ elim (Contains-cons_cases s after t right) [
        | inl same ↦ absurd (ne same)
        | inr later ↦ Contains-append_right before after t later
      ]
    ]

-- a list without a slot
abbrev pub others : ℕ → List ℕ → List ℕ
others s xs = filter (λ x. not (eqb x s)) xs

pub others_away : (s : ℕ) (xs : List ℕ) → Away s xs → others s xs ≡ xs
others_away s [] away = refl
others_away s (x ∷ xs) away =
    let off : eqb x s ≡ false = ne_eqb x s (All-head (λ y. y ≢ s) x xs away) in
    ap (λ b. cond (not b) (x ∷ others s xs) (others s xs)) off ∙ ap (λ ys. x ∷ ys) (others_away s xs (All-tail (λ y. y ≢ s) x xs away))

gone_more : (s x : ℕ) (xs : List ℕ) (b : Bool) → eqb x s ≡ b → (Contains xs s → ⊥) → Contains (cond (not b) (x ∷ xs) xs) s → ⊥
gone_more s x xs true is gone there = gone there
gone_more s x xs false is gone there =
    elim (Contains-cons_cases x xs s there) [
      | inl same ↦ let yes : eqb x s ≡ true = eq-eqb x s (sym same) in cc
      | inr later ↦ gone later
    ]

pub others_gone : (s : ℕ) (xs : List ℕ) → Contains (others s xs) s → ⊥
others_gone s [] there = let h = there.1 in absurd (omega arith)
others_gone s (x ∷ xs) there = gone_more s x (others s xs) (eqb x s) refl (others_gone s xs) there

pub others_out : (before : List ℕ) (s : ℕ) (after : List ℕ) → NoneTwice (before ++ s ∷ after) → others s (before ++ s ∷ after) ≡ before ++ after
others_out [] s after apart =
    ap (λ b. cond (not b) (s ∷ others s after) (others s after)) (eq-eqb s s refl) ∙ others_away s after apart.0
others_out (x ∷ before) s after apart =
    let away : Away s (x ∷ before) = apart_before (x ∷ before) s after apart in
    let off : eqb x s ≡ false = ne_eqb x s (All-head (λ y. y ≢ s) x before away) in
    ap (λ b. cond (not b) (x ∷ others s (before ++ s ∷ after)) (others s (before ++ s ∷ after))) off ∙ ap (λ ys. x ∷ ys) (others_out before s after apart.1)

-- slots below a bound, none twice, are at most so many
distinct : (xs : List ℕ) → NoneTwice xs → IsDistinct eqb xs
unfolding IsDistinct
distinct [] apart = tt
distinct (x ∷ xs) apart = (others_differ xs apart.0, distinct xs apart.1) where
  others_differ : (ys : List ℕ) → All (λ y. y ≢ x) ys → AllByRecursion (λ y. eqb x y ≡ false) ys
  others_differ [] away = tt
  others_differ (y ∷ ys) away = (ne_eqb x y (λ e. All-head (λ z. z ≢ x) y ys away (sym e)), others_differ ys (All-tail (λ z. z ≢ x) y ys away))

pub few : (xs : List ℕ) (n : ℕ) → NoneTwice xs → All (λ x. x < n) xs → length xs ≤ n
few xs n apart within =
    length-le_from_distinct_below xs n (distinct xs apart)
    (λ q found. All-contains (λ x. x < n) xs q within (Contains-from_any (λ x y e. eqb-true x y e) q xs found))

pub all_pairs : (xs : List ℕ) → NoneTwice xs → AllPairs (λ a b. a ≢ b) xs
all_pairs [] apart = λ i j d h k. absurd (omega arith)
all_pairs (x ∷ xs) apart = AllPairs-cons (λ a b. a ≢ b) x xs (λ k d h e. apart.0 k d h (sym e)) (all_pairs xs apart.1)
