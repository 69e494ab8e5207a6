use Rattle.std.proofs.Common.{◌≡◌, ◌<◌, ℕ, true, false, None, slice_index_or}
use Rattle.uc_learner.proofs.state.State.free_input.Given as goal

abbrev pub invariant-loop-input : goal.invariant-loop-input
invariant-loop-input l = (x : ℕ) → x < l.input → slice_index_or l.self.inputs.items x false ≡ true → slice_index_or l.self.values.items x None ≡ None → ⊥
