use Rattle.uc_uses.proofs.Rounds.{AreWays}
use Rattle.uc_uses.proofs.ways.long_ways.Given as goal

abbrev pub invariant-loop-step : goal.invariant-loop-step
invariant-loop-step l = AreWays l.graph l.step l.flags
