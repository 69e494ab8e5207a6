use Rattle.std.proofs.Common.{◌∙◌, ap, rules}
use Rattle.uc_meaning.specs.declared.scope.Scope.{Scope}
use Rattle.uc_meaning.specs.Code.{write}
use Rattle.uc_runs.proofs.Writing.{written_turn, met_turn, met_told, written_past, met_past, written_end, met_end}
use Rattle.uc_runs.proofs.target.write_all.Goals as goal

pub returns-in_err-here-in-Some-clause-wide : goal.returns-in_err-here-in-Some-clause-wide
returns-in_err-here-in-Some-clause-wide c =
    let told = met_told c.args.layout.now c.args.targets.now c.args.values.now c.loop-place.place c.index-targets-place.result c.in-Some.value.now c.loop-place-test.true c.index-targets-place.is c.in-Some.ensures
    Scope Scope c.loop-place.here _ c.in_err-here-in-Some.field-0.0 c.loop-place.invariant.wide c.in_err-here-in-Some.ensures.wide in
    search (rules, told)

pub loop-place-preserved : goal.loop-place-preserved
loop-place-preserved c =
    let step = c.in_ok-here-in-Some.ensures.value ∙ ap (write c.args.layout.now c.loop-place.here c.index-targets-place.result) c.in_ok-value-in-Some.ensures in
    record {
      value = written_turn c.args.layout.now c.args.targets.now c.args.values.now c.loop-place.place c.index-targets-place.result c.in-Some.value.now c.loop-place-test.true c.index-targets-place.is c.in-Some.ensures
          c.loop-place.here c.in_ok-here-in-Some.here _ step c.loop-place.invariant.value;
      wide = met_turn c.args.layout.now c.args.targets.now c.args.values.now c.loop-place.place c.index-targets-place.result c.in-Some.value.now c.loop-place-test.true c.index-targets-place.is c.in-Some.ensures
          c.loop-place.here c.in_ok-here-in-Some.here _ step c.in_ok-here-in-Some.ensures.wide c.loop-place.invariant.wide;
    }

pub returns-in-None : goal.returns-in-None
returns-in-None c = record {
  value = written_past c.args.layout.now c.args.targets.now c.args.values.now c.loop-place.place c.loop-place.here _ c.in-None.ensures c.loop-place.invariant.value;
  wide = met_past c.args.layout.now c.args.targets.now c.args.values.now c.loop-place.place c.loop-place.here _ c.in-None.ensures c.loop-place.invariant.wide;
}

pub returns : goal.returns
returns c = record {
  value = written_end c.args.layout.now c.args.targets.now c.args.values.now c.loop-place.place c.loop-place.here _ c.loop-place-test.false c.loop-place.invariant.value;
  wide = met_end c.args.layout.now c.args.targets.now c.args.values.now c.loop-place.place c.loop-place.here _ c.loop-place-test.false c.loop-place.invariant.wide;
}
