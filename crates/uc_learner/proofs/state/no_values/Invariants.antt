use Rattle.std.proofs.Common.{◌≡◌}
use Rattle.uc_log.specs.Refutes.{unvalued}
use Rattle.uc_learner.proofs.state.no_values.Given as goal

abbrev pub invariant-loop-number : goal.invariant-loop-number
invariant-loop-number l = record { values : l.values.items ≡ unvalued l._number }
