use Rattle.std.proofs.Common.{get_or}
use Rattle.uc_meaning.specs.Steps.{name_parts}
use Rattle.uc_readings.specs.Scopes.{scope_in}
use Rattle.uc_checks.proofs.Growing.{grows_more, grows_all, same_at}
use Rattle.uc_checks.proofs.seen.with_names.Goals as goal

pub loop-name-preserved : goal.loop-name-preserved
loop-name-preserved c =
    grows_more c.args.seen (name_parts c.args.layout.now (scope_in c.args.scope.now)) c.args.names.now c.loop-name.name-index c.loop-name.here c.loop-name.invariant (get_or c.args.names.now c.loop-name.name-index 0) c.in_ok-here.here c.loop-name-test.true
    (same_at c.args.names.now c.loop-name.name-index 0 (get_or c.args.names.now c.loop-name.name-index 0) c.loop-name-test.true) c.in_ok-here.ensures

pub returns : goal.returns
returns c = grows_all c.args.seen (name_parts c.args.layout.now (scope_in c.args.scope.now)) c.args.names.now c.loop-name.name-index c.loop-name.here c.loop-name.invariant c.loop-name-test.false
