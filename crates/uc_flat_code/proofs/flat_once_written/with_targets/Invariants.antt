use Rattle.uc_syntax.proofs.Added.{AddedUpTo}
use Rattle.uc_flat_code.specs.Written.{target_parts}
use Rattle.uc_flat_code.proofs.flat_once_written.with_targets.Given as goal

abbrev pub invariant-loop-target : goal.invariant-loop-target
invariant-loop-target l = AddedUpTo (target_parts l.names) l.targets l.fn.before l.target-index l.all
