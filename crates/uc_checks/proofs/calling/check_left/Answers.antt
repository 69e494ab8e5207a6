use Rattle.std.proofs.Common.{◌≡◌, true, subst, ◌∙◌, rules}
use Rattle.std.specs.List.{flat_map}
use Rattle.uc_meaning.specs.Steps.{all_left, writes, target_parts, name_parts, modified_by}
use Rattle.uc_readings.specs.Scopes.{scope_in}
use Rattle.uc_checks.specs.Watches.{Grows}
use Rattle.uc_checks.specs.Asked.{call_parts}
use Rattle.uc_checks.proofs.Growing.{grows_then}
use Rattle.uc_checks.proofs.Targets.{asks_some}
use Rattle.uc_checks.proofs.calling.check_left.Goals as goal

pub returns-clause-value : goal.returns-clause-value
returns-clause-value c =
    let held : c.in_ok-holds.holds ≡ true = search rules in
    let names : c.as_slice-names.result.now ≡ (modified_by c.args.layout.now (scope_in c.args.scope.now) c.args.name) = c.as_slice-names.ensures ∙ c.in_ok-names.ensures in
    let second : Grows c.in_ok-seen.seen (flat_map (name_parts c.args.layout.now (scope_in c.args.scope.now)) (modified_by c.args.layout.now (scope_in c.args.scope.now) c.args.name)) c.in_ok-seen-2.seen = subst (λ xs. Grows c.in_ok-seen.seen (flat_map (name_parts c.args.layout.now (scope_in c.args.scope.now)) xs) c.in_ok-seen-2.seen) names c.in_ok-seen-2.ensures in
    asks_some (scope_in c.args.scope.now) c.args.seen c.in_ok-holds.holds (all_left c.args.layout.now (scope_in c.args.scope.now) c.args.after.now c.args.targets.now (modified_by c.args.layout.now (scope_in c.args.scope.now) c.args.name)) (c.in_ok-holds.ensures.value ∙ (λ i. all_left c.args.layout.now (scope_in c.args.scope.now) (c.of-after.ensures i) c.args.targets.now (names i)))
    (writes (call_parts c.args.layout.now (scope_in c.args.scope.now) c.args.targets.now (modified_by c.args.layout.now (scope_in c.args.scope.now) c.args.name))) c.in_ok-seen-2.seen held
    (grows_then c.args.seen c.in_ok-seen.seen c.in_ok-seen-2.seen (flat_map (target_parts c.args.layout.now (scope_in c.args.scope.now)) c.args.targets.now) (flat_map (name_parts c.args.layout.now (scope_in c.args.scope.now)) (modified_by c.args.layout.now (scope_in c.args.scope.now) c.args.name)) c.in_ok-seen.ensures second (scope_in c.args.scope.now))
