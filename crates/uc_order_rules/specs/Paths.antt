-- What happens along the paths through a block: each path takes one arm of each conditional, and each loop as often as it has turns.
use Rattle.std.specs.Prelude.{ℕ, zero, suc, List, [], ◌∷◌, ◌++◌, map, length, Option, Some, None}
use Rattle.std.specs.List.{flat_map}
use Rattle.uc_syntax.specs.declared.statement.Arm.{Arm}
use Rattle.uc_rules.specs.declared.fault.Fault.{Fault}

-- What may happen in a stretch of code on some path through it, and the faults in it.
pub record Along (A : Type 0) : Type 0 where
  pub happens : List A
  pub faults : List Fault

-- A stretch of code, by what may have happened before it on a path that leads there.
abbrev pub Stretch : Type 0 → Type 0
Stretch A = List A → Along A

abbrev pub nothing : {A : Type 0} → Along A
nothing = record { happens = []; faults = [] }

abbrev pub both : {A : Type 0} → Along A → Along A → Along A
both a b = record { happens = a.happens ++ b.happens; faults = a.faults ++ b.faults }

-- one after another: what happens in one has happened before the next
unfoldable pub in_turn : {A : Type 0} → List (Stretch A) → Stretch A
in_turn [] before = nothing
in_turn (s ∷ ss) before = both (s before) (in_turn ss (before ++ (s before).happens))

-- one of several, as the arms of a conditional
unfoldable pub one_of : {A : Type 0} → List (Stretch A) → Stretch A
one_of [] before = nothing
one_of (s ∷ ss) before = both (s before) (one_of ss before)

-- the same list so many times
unfoldable pub times : {A : Type 0} → ℕ → A → List A
times zero x = []
times (suc n) x = x ∷ times n x

-- so many turns of a loop
abbrev pub turned : {A : Type 0} → ℕ → List (Stretch A) → Stretch A
turned n block = in_turn (times n (in_turn block))

abbrev pub last_arm : {A : Type 0} → Option (List (Stretch A)) → List (Stretch A)
last_arm None = []
last_arm (Some block) = in_turn block ∷ []

-- the arms of a conditional, and what stands behind its `else` or `default`
abbrev pub arms : {A : Type 0} → List (Arm (Stretch A)) → Option (List (Stretch A)) → Stretch A
arms as' otherwise = one_of (map (λ a. in_turn a.body) as' ++ last_arm otherwise)
