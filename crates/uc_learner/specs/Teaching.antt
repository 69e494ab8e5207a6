-- What makes a clause one that the search may take over: it is unit at a decision of the trail and at no decision before it.
use Rattle.std.specs.Prelude.{ℕ, ◌<◌, List, [], ◌∷◌, length}
use Rattle.uc_circuit.specs.declared.literal.Lit.{Lit}
use Rattle.uc_circuit.specs.Values.{HasNoValue, IsFalsified}
use Rattle.uc_learner.specs.declared.state.State.{State}
use Rattle.uc_learner.specs.Trail.{values_at, IsInput}
use Rattle.uc_learner.specs.Walked.{IsDecision, FirstIsOpen}

-- just before the decision at the target the first literal has no value and the others are false; before each earlier decision the
-- second one had no value
pub record Teaches (s : State) (asserted : Lit) (rest : List Lit) (target : ℕ) : Type 0 where
  pub undone : Lit
  pub decision : IsDecision s.trail.items target undone
  pub inside : asserted.var < length s.inputs.items
  pub input : IsInput s.inputs.items asserted
  pub unset : HasNoValue (values_at (length s.inputs.items) s.trail.items target) asserted
  pub rest_false : IsFalsified (values_at (length s.inputs.items) s.trail.items target) rest
  pub first_open : FirstIsOpen s.trail.items (length s.inputs.items) 0 target rest

-- the same of the whole clause: an empty one asks for nothing
abbrev pub CanTeach : State → List Lit → ℕ → Type 0
CanTeach s [] target = Unit {0}
CanTeach s (l ∷ rest) target = Teaches s l rest target
