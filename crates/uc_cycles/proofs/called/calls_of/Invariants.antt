use Rattle.std.proofs.Common.{take}
use Rattle.uc_cycles.specs.Uses.{KnowsCalls}
use Rattle.uc_cycles.proofs.called.calls_of.Given as goal

abbrev pub invariant-loop-number : goal.invariant-loop-number
invariant-loop-number l = KnowsCalls (take l.number l.declarations) l.calls
