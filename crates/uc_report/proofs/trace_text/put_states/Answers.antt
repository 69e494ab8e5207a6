use Rattle.std.proofs.Common.{◌++◌, List, ap, sym, ◌∙◌}
use Rattle.uc_values.specs.declared.value.Value.{Value}
use Rattle.uc_meaning.specs.declared.scope.State.{State}
use Rattle.uc_report.specs.Described.{described}
use Rattle.uc_report.specs.TraceText.{state_text}
use Rattle.uc_report.proofs.Steps.{state_more, state_end}
use Rattle.uc_report.proofs.trace_text.put_states.Goals as goal

pub loop-place-preserved : goal.loop-place-preserved
loop-place-preserved c =
    state_more (described c.args.d.now) c.args.cells.now c.args.states.now c.loop-place.place c.index-states-place.result
    c.loop-place.out.items c.put_state.new.out.items _ c.loop-place-test.true c.index-states-place.is c.loop-place.invariant
    (c.in_ok-put_state.ensures
    ∙ ap (λ (s : State × List Value). c.loop-place.out.items ++ state_text (described c.args.d.now) c.args.cells.now c.loop-place.place s.0) (sym c.index-states-place.is))

pub returns : goal.returns
returns c = state_end (described c.args.d.now) c.args.cells.now c.args.states.now c.loop-place.place c.loop-place.out.items _ c.loop-place-test.false c.loop-place.invariant
