use Rattle.uc_judge.specs.Prints.{declared_refs}
use Rattle.uc_judge.proofs.Numbered.{numbered_more, numbered_end}
use Rattle.uc_judge.proofs.cells.own_refs.Goals as goal

pub loop-place-preserved : goal.loop-place-preserved
loop-place-preserved c =
    numbered_more declared_refs c.args.decls.now c.loop-place.place c.index-decls-place.result c.loop-place.refs c.add_declared.new.refs _
    c.loop-place-test.true c.index-decls-place.is c.loop-place.invariant c.in_ok-add_declared.ensures

pub returns : goal.returns
returns c = numbered_end declared_refs c.args.decls.now c.loop-place.place c.loop-place.refs _ c.loop-place-test.false c.loop-place.invariant
