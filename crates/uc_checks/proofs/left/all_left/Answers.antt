use Rattle.std.proofs.Common.{◌≡◌, Bool, true, false, rules}
use Rattle.uc_meaning.specs.Steps.{all_left}
use Rattle.uc_meaning.specs.Checks.{left_met}
use Rattle.uc_readings.specs.Scopes.{scope_in}
use Rattle.uc_checks.proofs.Leaving.{left_more, left_out, left_met_more, left_met_out, left_told, target_left, target_left_met, targets_next, targets_met_next}
use Rattle.uc_checks.proofs.left.all_left.Goals as goal

pub returns-in_err-holds-clause-wide : goal.returns-in_err-holds-clause-wide
returns-in_err-holds-clause-wide c =
    let told = left_told (target_left c.args.layout.now (scope_in c.args.scope.now) (scope_in c.args.after.now)) (target_left_met c.args.layout.now (scope_in c.args.scope.now) (scope_in c.args.after.now)) (λ ts. all_left c.args.layout.now (scope_in c.args.scope.now) (scope_in c.args.after.now) ts c.args.names.now) (λ ts. left_met c.args.layout.now (scope_in c.args.scope.now) (scope_in c.args.after.now) ts c.args.names.now) (targets_next c.args.layout.now (scope_in c.args.scope.now) (scope_in c.args.after.now) c.args.names.now) (targets_met_next c.args.layout.now (scope_in c.args.scope.now) (scope_in c.args.after.now) c.args.names.now) c.args.targets.now c.loop-target.target-index c.target-item.result Bool Bool c.in_err-holds.field-0.0 c.loop-target-test.true c.target-item.is c.loop-target.invariant.wide c.in_err-holds.ensures.wide in
    search (rules, told)

pub returns-then-not-holds-clause-value : goal.returns-then-not-holds-clause-value
returns-then-not-holds-clause-value c =
    let failed : c.in_ok-holds.holds ≡ false = search rules in
    left_out (target_left c.args.layout.now (scope_in c.args.scope.now) (scope_in c.args.after.now)) (target_left_met c.args.layout.now (scope_in c.args.scope.now) (scope_in c.args.after.now)) (λ ts. all_left c.args.layout.now (scope_in c.args.scope.now) (scope_in c.args.after.now) ts c.args.names.now) (λ ts. left_met c.args.layout.now (scope_in c.args.scope.now) (scope_in c.args.after.now) ts c.args.names.now) (targets_next c.args.layout.now (scope_in c.args.scope.now) (scope_in c.args.after.now) c.args.names.now) (targets_met_next c.args.layout.now (scope_in c.args.scope.now) (scope_in c.args.after.now) c.args.names.now) c.args.targets.now c.loop-target.target-index c.target-item.result c.loop-target-test.true c.target-item.is c.in_ok-holds.holds c.in_ok-holds.ensures.value failed c.loop-target.invariant.value

pub returns-then-not-holds-clause-wide : goal.returns-then-not-holds-clause-wide
returns-then-not-holds-clause-wide c =
    let failed : c.in_ok-holds.holds ≡ false = search rules in
    left_met_out (target_left c.args.layout.now (scope_in c.args.scope.now) (scope_in c.args.after.now)) (target_left_met c.args.layout.now (scope_in c.args.scope.now) (scope_in c.args.after.now)) (λ ts. all_left c.args.layout.now (scope_in c.args.scope.now) (scope_in c.args.after.now) ts c.args.names.now) (λ ts. left_met c.args.layout.now (scope_in c.args.scope.now) (scope_in c.args.after.now) ts c.args.names.now) (targets_next c.args.layout.now (scope_in c.args.scope.now) (scope_in c.args.after.now) c.args.names.now) (targets_met_next c.args.layout.now (scope_in c.args.scope.now) (scope_in c.args.after.now) c.args.names.now) c.args.targets.now c.loop-target.target-index c.target-item.result c.loop-target-test.true c.target-item.is c.in_ok-holds.holds c.in_ok-holds.ensures.value failed c.in_ok-holds.ensures.wide c.loop-target.invariant.wide

pub loop-target-preserved : goal.loop-target-preserved
loop-target-preserved c =
    let held : c.in_ok-holds.holds ≡ true = search rules in
    record {
      value = left_more (target_left c.args.layout.now (scope_in c.args.scope.now) (scope_in c.args.after.now)) (target_left_met c.args.layout.now (scope_in c.args.scope.now) (scope_in c.args.after.now)) (λ ts. all_left c.args.layout.now (scope_in c.args.scope.now) (scope_in c.args.after.now) ts c.args.names.now) (λ ts. left_met c.args.layout.now (scope_in c.args.scope.now) (scope_in c.args.after.now) ts c.args.names.now) (targets_next c.args.layout.now (scope_in c.args.scope.now) (scope_in c.args.after.now) c.args.names.now) (targets_met_next c.args.layout.now (scope_in c.args.scope.now) (scope_in c.args.after.now) c.args.names.now) c.args.targets.now c.loop-target.target-index c.target-item.result c.loop-target-test.true c.target-item.is c.in_ok-holds.holds c.in_ok-holds.ensures.value held c.loop-target.invariant.value;
      wide = left_met_more (target_left c.args.layout.now (scope_in c.args.scope.now) (scope_in c.args.after.now)) (target_left_met c.args.layout.now (scope_in c.args.scope.now) (scope_in c.args.after.now)) (λ ts. all_left c.args.layout.now (scope_in c.args.scope.now) (scope_in c.args.after.now) ts c.args.names.now) (λ ts. left_met c.args.layout.now (scope_in c.args.scope.now) (scope_in c.args.after.now) ts c.args.names.now) (targets_next c.args.layout.now (scope_in c.args.scope.now) (scope_in c.args.after.now) c.args.names.now) (targets_met_next c.args.layout.now (scope_in c.args.scope.now) (scope_in c.args.after.now) c.args.names.now) c.args.targets.now c.loop-target.target-index c.target-item.result c.loop-target-test.true c.target-item.is c.in_ok-holds.holds c.in_ok-holds.ensures.value held c.in_ok-holds.ensures.wide c.loop-target.invariant.wide;
    }
