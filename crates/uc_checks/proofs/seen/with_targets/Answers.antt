use Rattle.uc_meaning.specs.Steps.{target_parts}
use Rattle.uc_readings.specs.Scopes.{scope_in}
use Rattle.uc_checks.proofs.Growing.{grows_more, grows_all}
use Rattle.uc_checks.proofs.seen.with_targets.Goals as goal

pub loop-target-preserved : goal.loop-target-preserved
loop-target-preserved c =
    grows_more c.args.seen (target_parts c.args.layout.now (scope_in c.args.scope.now)) c.args.targets.now c.loop-target.target-index c.loop-target.here c.loop-target.invariant c.target-item.result c.in_ok-here.here c.loop-target-test.true c.target-item.is c.in_ok-here.ensures

pub returns : goal.returns
returns c = grows_all c.args.seen (target_parts c.args.layout.now (scope_in c.args.scope.now)) c.args.targets.now c.loop-target.target-index c.loop-target.here c.loop-target.invariant c.loop-target-test.false
