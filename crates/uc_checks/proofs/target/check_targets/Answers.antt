use Rattle.std.proofs.Common.{◌≡◌, Option, None, rules}
use Rattle.std.specs.Prelude.{slice_get}
use Rattle.uc_readings.specs.Scopes.{scope_in}
use Rattle.uc_checks.specs.declared.seen.Seen.{Seen}
use Rattle.uc_checks.proofs.Targets.{asked_more, asked_out, asked_past, asked_end, met_more, met_out, met_told, met_past, met_end}
use Rattle.uc_checks.proofs.target.check_targets.Goals as goal

pub returns-in_default-clause-value : goal.returns-in_default-clause-value
returns-in_default-clause-value c =
    let none : None ≡ slice_get c.args.values.now c.loop-place.place = search rules in
    asked_past c.args.layout.now c.args.targets.now c.args.values.now c.loop-place.place (scope_in c.args.scope.now) c.args.seen c.loop-place.here none c.loop-place.invariant.value

pub returns-in_default-clause-wide : goal.returns-in_default-clause-wide
returns-in_default-clause-wide c =
    let none : None ≡ slice_get c.args.values.now c.loop-place.place = search rules in
    met_past c.args.layout.now c.args.targets.now c.args.values.now c.loop-place.place (scope_in c.args.scope.now) c.args.seen c.loop-place.here none c.loop-place.invariant.wide

pub returns-in_err-asked-clause-wide : goal.returns-in_err-asked-clause-wide
returns-in_err-asked-clause-wide c =
    let told = met_told c.args.layout.now c.args.targets.now c.args.values.now c.loop-place.place (scope_in c.args.scope.now) c.args.seen c.loop-place.here c.index-targets-place.result c.in-Some.value.now c.loop-place-test.true c.index-targets-place.is c.in-Some.ensures (Option Seen) (Option Seen) c.in_err-asked.field-0.0 c.loop-place.invariant.wide c.in_err-asked.ensures.wide in
    search (rules, told)

pub returns-in-None-clause-value : goal.returns-in-None-clause-value
returns-in-None-clause-value c = asked_out c.args.layout.now c.args.targets.now c.args.values.now c.loop-place.place (scope_in c.args.scope.now) c.args.seen c.loop-place.here c.index-targets-place.result c.in-Some.value.now c.loop-place-test.true c.index-targets-place.is c.in-Some.ensures c.in_ok-asked.asked c.in-None.is c.in_ok-asked.ensures.value c.loop-place.invariant.value

pub returns-in-None-clause-wide : goal.returns-in-None-clause-wide
returns-in-None-clause-wide c = met_out c.args.layout.now c.args.targets.now c.args.values.now c.loop-place.place (scope_in c.args.scope.now) c.args.seen c.loop-place.here c.index-targets-place.result c.in-Some.value.now c.loop-place-test.true c.index-targets-place.is c.in-Some.ensures c.in_ok-asked.asked c.in-None.is c.in_ok-asked.ensures.value c.in_ok-asked.ensures.wide c.loop-place.invariant.wide

pub loop-place-preserved : goal.loop-place-preserved
loop-place-preserved c = record {
  value = asked_more c.args.layout.now c.args.targets.now c.args.values.now c.loop-place.place (scope_in c.args.scope.now) c.args.seen c.loop-place.here c.index-targets-place.result c.in-Some.value.now c.loop-place-test.true c.index-targets-place.is c.in-Some.ensures c.in-Some-asked.next c.in_ok-asked.asked c.in-Some-asked.is c.in_ok-asked.ensures.value c.loop-place.invariant.value;
  wide = met_more c.args.layout.now c.args.targets.now c.args.values.now c.loop-place.place (scope_in c.args.scope.now) c.args.seen c.loop-place.here c.index-targets-place.result c.in-Some.value.now c.loop-place-test.true c.index-targets-place.is c.in-Some.ensures c.in-Some-asked.next c.in_ok-asked.asked c.in-Some-asked.is c.in_ok-asked.ensures.value c.in_ok-asked.ensures.wide c.loop-place.invariant.wide;
}

pub returns-clause-value : goal.returns-clause-value
returns-clause-value c = asked_end c.args.layout.now c.args.targets.now c.args.values.now c.loop-place.place (scope_in c.args.scope.now) c.args.seen c.loop-place.here c.loop-place-test.false c.loop-place.invariant.value

pub returns-clause-wide : goal.returns-clause-wide
returns-clause-wide c = met_end c.args.layout.now c.args.targets.now c.args.values.now c.loop-place.place (scope_in c.args.scope.now) c.args.seen c.loop-place.here c.loop-place-test.false c.loop-place.invariant.wide
