use Rattle.std.proofs.Common.{arith, subst, sym, ◌+◌}
use Rattle.uc_lower.specs.Steps.{AreChosen}
use Rattle.uc_lower.proofs.Building.{here, choice_suits, choice_step}
use Rattle.uc_lower.proofs.Growing.{grows_on}
use Rattle.uc_lower.proofs.build.chosen.Goals as goal

pub made-requires-clause-suits : goal.made-requires-clause-suits
made-requires-clause-suits c =
    let i = c.loop-place.place in
    let l = c.index-left-place.result in
    let r = c.index-right-place.result in
    choice_suits c.args.terms.now c.loop-place.terms c.args.condition c.args.left.now c.args.right.now i l r c.loop-place.invariant.grown c.requires.condition c.requires.boolean
    (here c.args.terms.now c.loop-place.terms c.args.left.now c.args.right.now i l r c.loop-place.invariant.grown c.requires.left c.requires.right c.requires.same c.index-left-place.is c.index-right-place.is (omega arith))

pub loop-place-preserved : goal.loop-place-preserved
loop-place-preserved c =
    subst (AreChosen c.args.terms.now c.made.new.terms c.args.condition c.args.left.now c.args.right.now (c.loop-place.place + 1)) (sym c.in_ok-push.ensures.items)
    (choice_step c.args.terms.now c.loop-place.terms c.made.new.terms c.args.condition c.args.left.now c.args.right.now c.loop-place.place c.index-left-place.result c.index-right-place.result c.in_ok-one.one c.loop-place.chosen.items
    c.requires.well c.loop-place.invariant c.in_ok-one.ensures.made c.requires.condition c.requires.left c.requires.right c.requires.same c.index-left-place.is c.index-right-place.is (omega arith))

pub made-requires-clause-well : goal.made-requires-clause-well
made-requires-clause-well c = c.loop-place.invariant.grown.well

pub returns-in_err-one-clause-grown : goal.returns-in_err-one-clause-grown
returns-in_err-one-clause-grown c = grows_on _ _ _ c.loop-place.invariant.grown c.in_err-one.ensures.grown

pub returns-in_err-push-clause-grown : goal.returns-in_err-push-clause-grown
returns-in_err-push-clause-grown c = grows_on _ _ _ c.loop-place.invariant.grown c.in_ok-one.ensures.grown

pub returns-clause-grown : goal.returns-clause-grown
returns-clause-grown c = c.loop-place.invariant.grown
