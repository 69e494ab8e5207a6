use Rattle.std.proofs.Common.{◌≡◌, ◌++◌, drop, map, length}
use Rattle.std.specs.Option.{option_map}
use Rattle.uc_flat_code.specs.Code.{each_arm}
use Rattle.uc_flat_code.specs.Once.{writer}
use Rattle.uc_flat_code.specs.FlatOnceWalk.{each_after, arms_only}
use Rattle.uc_flat_code.proofs.once.+after_code.Given as goal

abbrev pub invariant-after_code-loop-statement : goal.invariant-after_code-loop-statement
invariant-after_code-loop-statement l = each_after (map (writer l.names l.first) (drop l.statement-index l.code)) l.now ≡ each_after (map (writer l.names l.first) l.code) l.fn.before

abbrev pub invariant-after_arms-loop-arm : goal.invariant-after_arms-loop-arm
invariant-after_arms-loop-arm l =
    (l.start ≡ length l.fn.before)
    × (l.now ≡ l.fn.before)
    × (arms_only (map (each_arm (writer l.names l.first)) l.arms) l.fn.before ≡ option_map (λ ys. l.found ++ ys) (arms_only (map (each_arm (writer l.names l.first)) (drop l.arm-index l.arms)) l.fn.before))

abbrev pub invariant-after_arms-loop-statement : goal.invariant-after_arms-loop-statement
invariant-after_arms-loop-statement l = each_after (map (writer l.names l.first) (drop l.statement-index l.block)) l.now ≡ each_after (map (writer l.names l.first) l.block) l.fn.before
