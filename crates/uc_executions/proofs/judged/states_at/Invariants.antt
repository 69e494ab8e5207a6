use Rattle.std.proofs.Common.{◌≡◌, take}
use Rattle.uc_meaning.specs.Runs.{states_at}
use Rattle.uc_executions.proofs.judged.states_at.Given as goal

abbrev pub invariant-loop-run : goal.invariant-loop-run
invariant-loop-run l = l.states ≡ states_at l.position (take l.run-index l.copies)
