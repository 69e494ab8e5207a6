use Rattle.std.proofs.Common.{◌≡◌, take, map, slice_index}
use Rattle.uc_obligations.proofs.unrolling.chosen.Given as goal

abbrev pub invariant-loop-t : goal.invariant-loop-t
invariant-loop-t l = l.all ≡ map (slice_index l.answers) (take l.t-index l.ts)
