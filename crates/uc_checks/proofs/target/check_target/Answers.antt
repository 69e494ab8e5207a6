use Rattle.std.proofs.Common.{◌≡◌, true, rules}
use Rattle.uc_meaning.specs.Steps.{is_assigned, writes, target_parts}
use Rattle.uc_readings.specs.Scopes.{scope_in}
use Rattle.uc_checks.proofs.Targets.{asks_some}
use Rattle.uc_checks.proofs.target.check_target.Goals as goal

pub returns-clause-value : goal.returns-clause-value
returns-clause-value c =
    let held : c.in_ok-holds.holds ≡ true = search rules in
    asks_some (scope_in c.args.scope.now) c.args.seen c.in_ok-holds.holds (is_assigned c.args.layout.now (scope_in c.args.scope.now) c.args.target.now c.args.value.now) c.in_ok-holds.ensures.value (writes (target_parts c.args.layout.now (scope_in c.args.scope.now) c.args.target.now)) c.in_ok-seen.seen held (c.in_ok-seen.ensures (scope_in c.args.scope.now))
