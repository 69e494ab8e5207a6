use Rattle.std.proofs.Common.{subst}
use Rattle.uc_simplify_steps.specs.Steps.{IsRight}
use Rattle.uc_simplify.proofs.Rebuilding.{known_rebuilds, call_rebuilds}
use Rattle.uc_simplify.proofs.building.put.Goals as goal

pub returns-in-Known-clause-rebuilt : goal.returns-in-Known-clause-rebuilt
returns-in-Known-clause-rebuilt c =
    known_rebuilds c.args.terms.now c.in-Known.t c.args.op c.args.parts (subst (IsRight c.args.terms.now c.args.op c.args.parts) c.in-Known.is c.in_ok-t.ensures)

pub returns-in-Other-clause-rebuilt : goal.returns-in-Other-clause-rebuilt
returns-in-Other-clause-rebuilt c =
    let right = subst (IsRight c.args.terms.now c.args.op c.args.parts) c.in-Other.is c.in_ok-t.ensures in
    call_rebuilds c.build.new.terms c.args.terms.now c.build.result c.in-Other.op c.args.op c.in-Other.parts c.args.parts c.as_slice.result.now c.as_slice.ensures c.build.ensures.rebuilt right
