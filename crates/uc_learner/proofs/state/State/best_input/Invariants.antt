use Rattle.std.proofs.Common.{IfSome}
use Rattle.uc_learner.specs.Moves.{IsFreeInput}
use Rattle.uc_learner.proofs.state.State.best_input.Given as goal

abbrev pub invariant-loop-input : goal.invariant-loop-input
invariant-loop-input l = record { is_free : IfSome l.best (λ x. IsFreeInput l.self x) }
