use Rattle.std.proofs.Common.{◌∙◌, ap}
use Rattle.std.specs.List.{flat_map}
use Rattle.uc_ops.specs.Meaning.{part}
use Rattle.uc_obligations.specs.Reading.{choice_read, hit_read}
use Rattle.uc_obligations.proofs.Read.{mapped_more, mapped_end, position_is}
use Rattle.uc_obligations.proofs.reading.position.Goals as goal

pub loop-term-preserved : goal.loop-term-preserved
loop-term-preserved c = mapped_more (part c.args.values.now) _ _ _ _ _ _ c.loop-term.invariant c.loop-term-test.true c.term-item.is c.in_ok-value.ensures c.in_ok-push.ensures.ok

pub returns : goal.returns
returns c =
    position_is c.args.values.now c.args.state.now _ _ _
    (mapped_end (part c.args.values.now) _ _ _ _ c.loop-term.invariant c.loop-term-test.false c.as_slice-terms.ensures)
    (c.in_ok-choices.ensures ∙ ap (flat_map (choice_read c.args.values.now)) c.as_slice.ensures)
    (c.in_ok-sites.ensures ∙ ap (flat_map (hit_read c.args.values.now)) c.as_slice-2.ensures)
