use Rattle.std.proofs.Common.{◌≡◌, take, map, slice_index}
use Rattle.uc_simplify.proofs.simplifier.answered.Given as goal

abbrev pub invariant-loop-part : goal.invariant-loop-part
invariant-loop-part l = l.chosen.items ≡ map (slice_index l.answers) (take l.part-index l.parts)
