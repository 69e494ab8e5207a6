use Rattle.std.proofs.Common.{◌≡◌, Bool, [], true, false, get_or, ap, ◌∙◌, sym, rules}
use Rattle.uc_meaning.specs.Steps.{all_left}
use Rattle.uc_meaning.specs.Checks.{left_met}
use Rattle.uc_operators.specs.Overflows.{first_wide}
use Rattle.uc_readings.specs.Scopes.{scope_in}
use Rattle.uc_checks.proofs.Growing.{same_at}
use Rattle.uc_checks.proofs.Leaving.{left_more, left_out, left_met_more, left_met_out, left_told, left_end, left_met_end, name_left, name_left_met, names_next, names_met_next, none_left, none_left_met}
use Rattle.uc_checks.proofs.left.names_left.Goals as goal

pub returns-in_err-holds-clause-wide : goal.returns-in_err-holds-clause-wide
returns-in_err-holds-clause-wide c =
    let told = left_told (name_left c.args.layout.now (scope_in c.args.scope.now) (scope_in c.args.after.now)) (name_left_met c.args.layout.now (scope_in c.args.scope.now) (scope_in c.args.after.now)) (all_left c.args.layout.now (scope_in c.args.scope.now) (scope_in c.args.after.now) []) (left_met c.args.layout.now (scope_in c.args.scope.now) (scope_in c.args.after.now) []) (names_next c.args.layout.now (scope_in c.args.scope.now) (scope_in c.args.after.now)) (names_met_next c.args.layout.now (scope_in c.args.scope.now) (scope_in c.args.after.now)) c.args.names.now c.loop-name.name-index (get_or c.args.names.now c.loop-name.name-index 0) Bool Bool c.in_err-holds.field-0.0 c.loop-name-test.true (same_at c.args.names.now c.loop-name.name-index 0 (get_or c.args.names.now c.loop-name.name-index 0) c.loop-name-test.true) c.loop-name.invariant.wide c.in_err-holds.ensures.wide in
    search (rules, told)

pub returns-then-not-holds-clause-value : goal.returns-then-not-holds-clause-value
returns-then-not-holds-clause-value c =
    let failed : c.in_ok-holds.holds ≡ false = search rules in
    left_out (name_left c.args.layout.now (scope_in c.args.scope.now) (scope_in c.args.after.now)) (name_left_met c.args.layout.now (scope_in c.args.scope.now) (scope_in c.args.after.now)) (all_left c.args.layout.now (scope_in c.args.scope.now) (scope_in c.args.after.now) []) (left_met c.args.layout.now (scope_in c.args.scope.now) (scope_in c.args.after.now) []) (names_next c.args.layout.now (scope_in c.args.scope.now) (scope_in c.args.after.now)) (names_met_next c.args.layout.now (scope_in c.args.scope.now) (scope_in c.args.after.now)) c.args.names.now c.loop-name.name-index (get_or c.args.names.now c.loop-name.name-index 0) c.loop-name-test.true (same_at c.args.names.now c.loop-name.name-index 0 (get_or c.args.names.now c.loop-name.name-index 0) c.loop-name-test.true) c.in_ok-holds.holds c.in_ok-holds.ensures.value failed c.loop-name.invariant.value

pub returns-then-not-holds-clause-wide : goal.returns-then-not-holds-clause-wide
returns-then-not-holds-clause-wide c =
    let failed : c.in_ok-holds.holds ≡ false = search rules in
    left_met_out (name_left c.args.layout.now (scope_in c.args.scope.now) (scope_in c.args.after.now)) (name_left_met c.args.layout.now (scope_in c.args.scope.now) (scope_in c.args.after.now)) (all_left c.args.layout.now (scope_in c.args.scope.now) (scope_in c.args.after.now) []) (left_met c.args.layout.now (scope_in c.args.scope.now) (scope_in c.args.after.now) []) (names_next c.args.layout.now (scope_in c.args.scope.now) (scope_in c.args.after.now)) (names_met_next c.args.layout.now (scope_in c.args.scope.now) (scope_in c.args.after.now)) c.args.names.now c.loop-name.name-index (get_or c.args.names.now c.loop-name.name-index 0) c.loop-name-test.true (same_at c.args.names.now c.loop-name.name-index 0 (get_or c.args.names.now c.loop-name.name-index 0) c.loop-name-test.true) c.in_ok-holds.holds c.in_ok-holds.ensures.value failed c.in_ok-holds.ensures.wide c.loop-name.invariant.wide

pub loop-name-preserved : goal.loop-name-preserved
loop-name-preserved c =
    let held : c.in_ok-holds.holds ≡ true = search rules in
    record {
      value = left_more (name_left c.args.layout.now (scope_in c.args.scope.now) (scope_in c.args.after.now)) (name_left_met c.args.layout.now (scope_in c.args.scope.now) (scope_in c.args.after.now)) (all_left c.args.layout.now (scope_in c.args.scope.now) (scope_in c.args.after.now) []) (left_met c.args.layout.now (scope_in c.args.scope.now) (scope_in c.args.after.now) []) (names_next c.args.layout.now (scope_in c.args.scope.now) (scope_in c.args.after.now)) (names_met_next c.args.layout.now (scope_in c.args.scope.now) (scope_in c.args.after.now)) c.args.names.now c.loop-name.name-index (get_or c.args.names.now c.loop-name.name-index 0) c.loop-name-test.true (same_at c.args.names.now c.loop-name.name-index 0 (get_or c.args.names.now c.loop-name.name-index 0) c.loop-name-test.true) c.in_ok-holds.holds c.in_ok-holds.ensures.value held c.loop-name.invariant.value;
      wide = left_met_more (name_left c.args.layout.now (scope_in c.args.scope.now) (scope_in c.args.after.now)) (name_left_met c.args.layout.now (scope_in c.args.scope.now) (scope_in c.args.after.now)) (all_left c.args.layout.now (scope_in c.args.scope.now) (scope_in c.args.after.now) []) (left_met c.args.layout.now (scope_in c.args.scope.now) (scope_in c.args.after.now) []) (names_next c.args.layout.now (scope_in c.args.scope.now) (scope_in c.args.after.now)) (names_met_next c.args.layout.now (scope_in c.args.scope.now) (scope_in c.args.after.now)) c.args.names.now c.loop-name.name-index (get_or c.args.names.now c.loop-name.name-index 0) c.loop-name-test.true (same_at c.args.names.now c.loop-name.name-index 0 (get_or c.args.names.now c.loop-name.name-index 0) c.loop-name-test.true) c.in_ok-holds.holds c.in_ok-holds.ensures.value held c.in_ok-holds.ensures.wide c.loop-name.invariant.wide;
    }

pub returns-clause-value : goal.returns-clause-value
returns-clause-value c = sym (none_left c.args.layout.now (scope_in c.args.scope.now) (scope_in c.args.after.now)) ∙ left_end (name_left c.args.layout.now (scope_in c.args.scope.now) (scope_in c.args.after.now)) (name_left_met c.args.layout.now (scope_in c.args.scope.now) (scope_in c.args.after.now)) (all_left c.args.layout.now (scope_in c.args.scope.now) (scope_in c.args.after.now) []) (left_met c.args.layout.now (scope_in c.args.scope.now) (scope_in c.args.after.now) []) (names_next c.args.layout.now (scope_in c.args.scope.now) (scope_in c.args.after.now)) (names_met_next c.args.layout.now (scope_in c.args.scope.now) (scope_in c.args.after.now)) c.args.names.now c.loop-name.name-index c.loop-name-test.false c.loop-name.invariant.value

pub returns-clause-wide : goal.returns-clause-wide
returns-clause-wide c = sym (left_met_end (name_left c.args.layout.now (scope_in c.args.scope.now) (scope_in c.args.after.now)) (name_left_met c.args.layout.now (scope_in c.args.scope.now) (scope_in c.args.after.now)) (all_left c.args.layout.now (scope_in c.args.scope.now) (scope_in c.args.after.now) []) (left_met c.args.layout.now (scope_in c.args.scope.now) (scope_in c.args.after.now) []) (names_next c.args.layout.now (scope_in c.args.scope.now) (scope_in c.args.after.now)) (names_met_next c.args.layout.now (scope_in c.args.scope.now) (scope_in c.args.after.now)) c.args.names.now c.loop-name.name-index c.loop-name-test.false c.loop-name.invariant.wide) ∙ ap first_wide (none_left_met c.args.layout.now (scope_in c.args.scope.now) (scope_in c.args.after.now))
