-- Walks over code that carry what happened before, and that go once through a loop.
use Rattle.std.specs.Prelude.{ℕ, zero, suc, Bool, true, List, [], ◌∷◌, ◌++◌, map, length, take, drop, Option, Some, None}
use Rattle.uc_syntax.specs.declared.statement.Arm.{Arm}
use Rattle.uc_rules.specs.declared.fault.Fault.{Fault}

-- What a walk has seen, and the faults that it met.
pub record Passed (A : Type 0) : Type 0 where
  pub seen : List A
  pub faults : List Fault

abbrev pub passed : {A : Type 0} → List A → List Fault → Passed A
passed seen faults = record { seen = seen; faults = faults }

-- A walk over code, by whether all that happens in it happened in an earlier turn, and by what was seen before.
abbrev pub Walk : Type 0 → Type 0
Walk A = Bool → List A → Passed A

-- faults that were met earlier
abbrev pub after : {A : Type 0} → List Fault → Passed A → Passed A
after faults p = passed p.seen (faults ++ p.faults)

unfoldable pub walk_each : {A : Type 0} → List (Walk A) → Walk A
walk_each [] again seen = passed seen []
walk_each (w ∷ ws) again seen = after (w again seen).faults (walk_each ws again (w again seen).seen)

-- What arms have seen: each begins with what was seen before them all, and what it sees besides is put aside.
pub record Parted (A : Type 0) : Type 0 where
  pub seen : List A
  pub aside : List A
  pub faults : List Fault

abbrev pub parted : {A : Type 0} → List A → List A → List Fault → Parted A
parted seen aside faults = record { seen = seen; aside = aside; faults = faults }

abbrev pub parted_after : {A : Type 0} → List Fault → Parted A → Parted A
parted_after faults p = parted p.seen p.aside (faults ++ p.faults)

unfoldable pub walk_arms : {A : Type 0} → List (Walk A) → Bool → List A → List A → Parted A
walk_arms [] again seen aside = parted seen aside []
walk_arms (w ∷ ws) again seen aside =
    parted_after (w again seen).faults
    (walk_arms ws again (take (length seen) (w again seen).seen) (aside ++ drop (length seen) (w again seen).seen))

-- all that was put aside is seen in the end
abbrev pub joined : {A : Type 0} → Parted A → Passed A
joined p = passed (p.seen ++ p.aside) p.faults

abbrev pub last_walk : {A : Type 0} → Option (List (Walk A)) → List (Walk A)
last_walk None = []
last_walk (Some block) = walk_each block ∷ []

abbrev pub walk_choice : {A : Type 0} → List (Arm (Walk A)) → Option (List (Walk A)) → Walk A
walk_choice as' otherwise again seen = joined (walk_arms (map (λ a. walk_each a.body) as' ++ last_walk otherwise) again seen [])

-- a loop: in its later turns all that happens in it happened before
abbrev pub walk_turns : {A : Type 0} → ℕ → Walk A → Walk A
walk_turns zero w again seen = passed seen []
walk_turns (suc zero) w again seen = w again seen
walk_turns (suc (suc n)) w again seen = w true seen
