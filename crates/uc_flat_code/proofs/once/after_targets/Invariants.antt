use Rattle.std.proofs.Common.{◌≡◌, drop, map}
use Rattle.uc_flat_code.specs.Once.{target_writer}
use Rattle.uc_flat_code.specs.FlatOnceWalk.{each_after}
use Rattle.uc_flat_code.proofs.once.after_targets.Given as goal

abbrev pub invariant-loop-target : goal.invariant-loop-target
invariant-loop-target l = each_after (map (target_writer l.names) (drop l.target-index l.targets)) l.now ≡ each_after (map (target_writer l.names) l.targets) l.fn.before
