use Rattle.std.proofs.Common.{[], sym, subst}
use Rattle.uc_statement_rules.specs.Judging.{JudgesTargets}
use Rattle.uc_statement_rules.proofs.Parts.{targets_begin, targets_more}
use Rattle.uc_statement_rules.proofs.targets.judge_targets.Goals as goal

pub loop-target-init : goal.loop-target-init
loop-target-init c = subst (JudgesTargets c.args.scope.now [] c.args.first.now c.args.first.now) (sym c.new-types.ensures) (targets_begin c.args.scope.now c.args.first.now)

pub loop-target-preserved : goal.loop-target-preserved
loop-target-preserved c =
    targets_more c.args.scope.now c.args.targets.now c.loop-target.target-index c.target-item.result c.target-item.result c.args.first.now c.loop-target.first c.judge_target.new.first c.loop-target.types c.push.new.self c.in_ok-ty.ty
    c.loop-target.invariant c.loop-target-test.true c.target-item.is c.in_ok-ty.ensures c.in_ok-push.ensures.ok
