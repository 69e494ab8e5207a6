use Rattle.std.proofs.Common.{◌≡◌, take}
use Rattle.uc_syntax.proofs.design.copy_enums.Given as goal

abbrev pub invariant-loop-labels : goal.invariant-loop-labels
invariant-loop-labels l = l.copies ≡ take l.labels-index l.enums
