-- What happens in code, and which two things happen on one path: the one earlier, the other later.
use Rattle.std.specs.Prelude.{◌≡◌, Bool, true, ◌||◌, not, List, map}
use Rattle.std.specs.List.{flat_map, list_any}
use Rattle.uc_order_rules.specs.Paths.{Stretch}
use Rattle.uc_order_rules.specs.Writes.{is_empty}

-- Which of two things meet, an earlier one and a later one.
abbrev pub Meeting : Type 0 → Type 0
Meeting A = A → A → Bool

-- some thing of a list meets an earlier one
abbrev pub any_met : {A : Type 0} → Meeting A → List A → List A → Bool
any_met meets before later = list_any (λ x. list_any (λ q. meets q x) before) later

abbrev pub any_pair : {A : Type 0} → Meeting A → List (A × A) → Bool
any_pair meets pairs = list_any (λ p. meets p.0 p.1) pairs

-- each of some with each of others
abbrev pub cross : {A : Type 0} → List A → List A → List (A × A)
cross as' bs = flat_map (λ a. map (λ b. (a, b)) bs) as'

-- the same things stand in two lists, in any order and as often as one likes
abbrev pub SameThings : {A : Type 0} → List A → List A → Type 0
SameThings {A} as' bs = (test : A → Bool) → list_any test as' ≡ list_any test bs

-- only things that pass a test meet
abbrev pub Only : {A : Type 0} → (A → Bool) → Meeting A → Type 0
Only {A} keep meets = (x y : A) → meets x y ≡ true → (keep x ≡ true) × (keep y ≡ true)

-- A stretch that is judged by what meets: the given things happen in it, whatever meets. Where only things that pass a test meet, it has a
-- fault exactly where one of them meets what happened before, or where the two of a given pair meet: they happen on one path.
pub record Paired (A : Type 0) (keep : A → Bool) (stretch : Meeting A → Stretch A) (happens : List A) (pairs : List (A × A)) : Type 0 where
  pub same : (meets : Meeting A) (before : List A) (test : A → Bool) → list_any test (stretch meets before).happens ≡ list_any test happens
  pub fails : (meets : Meeting A) (before : List A) → Only keep meets → not (is_empty (stretch meets before).faults) ≡ (any_met meets before happens || any_pair meets pairs)
