use Rattle.std.proofs.Common.{◌≡◌, take}
use Rattle.uc_syntax.proofs.statement.copy_targets.Given as goal

abbrev pub invariant-loop-target : goal.invariant-loop-target
invariant-loop-target l = l.copies ≡ take l.target-index l.targets
