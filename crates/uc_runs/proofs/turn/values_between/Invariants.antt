use Rattle.std.proofs.Common.{◌≡◌, map}
use Rattle.uc_meaning.specs.Code.{counted_up, turn_value}
use Rattle.uc_runs.proofs.turn.values_between.Given as goal

abbrev pub invariant-loop-step : goal.invariant-loop-step
invariant-loop-step l = l.values.items ≡ map (turn_value l.from) (counted_up l.step l.first)
