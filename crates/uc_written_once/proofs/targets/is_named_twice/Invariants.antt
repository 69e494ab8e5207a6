use Rattle.uc_written_once.proofs.Again.{AgainFrom}
use Rattle.uc_written_once.proofs.targets.is_named_twice.Given as goal

abbrev pub invariant-loop-target : goal.invariant-loop-target
invariant-loop-target l = AgainFrom l.targets l.target-index l.seen
