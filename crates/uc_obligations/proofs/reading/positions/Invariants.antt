use Rattle.std.proofs.Common.{◌≡◌, take, map}
use Rattle.uc_obligations.specs.Reading.{position_read}
use Rattle.uc_obligations.proofs.reading.positions.Given as goal

abbrev pub invariant-loop-state : goal.invariant-loop-state
invariant-loop-state l = l.positions ≡ map (position_read l.values) (take l.state-index l.states)
