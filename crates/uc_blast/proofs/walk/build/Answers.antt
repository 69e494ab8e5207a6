use Rattle.std.specs.Prelude.{◌≡◌, length}
use Rattle.std.proofs.Common.{refl, ap, ◌∙◌, arith, subst}
use Rattle.uc_blast.specs.Walk.{AreStanding}
use Rattle.uc_blast.proofs.Standing.{standing-start, standing-more, ready}
use Rattle.uc_blast.proofs.walk.build.Goals as goal

pub loop-place-init : goal.loop-place-init
loop-place-init c =
    standing-start c.args.terms.now c.args.t c.args.marks.now c.args.inputs.atoms.items c.args.inputs.words.items c.new-gates.result c.in_ok-total.total
    c.requires.inputs c.new-gates.ensures (c.in_ok-total.ensures ∙ ap length c.as_slice.ensures.value)

pub step-requires-clause-there : goal.step-requires-clause-there
step-requires-clause-there c = omega (arith, c.loop-place-test.true, c.requires.marks.within)

pub step-requires-clause-within : goal.step-requires-clause-within
step-requires-clause-within c = omega (arith, c.loop-place-test.true, c.loop-place.invariant.long)

pub step-requires-clause-ready : goal.step-requires-clause-ready
step-requires-clause-ready c mk composed =
    ready c.args.terms.now c.args.t c.args.marks.now c.loop-place.place c.args.inputs.atoms.items c.loop-place.gates c.loop-place.words.items
    c.nodes-well_typed.ensures.well c.requires.blastable c.requires.marks mk composed c.loop-place.invariant

pub loop-place-preserved : goal.loop-place-preserved
loop-place-preserved c =
    standing-more c.args.terms.now c.args.t c.args.marks.now c.loop-place.place c.args.inputs.atoms.items c.loop-place.gates c.step.new.gates c.loop-place.words.items c.step.new.words.items _
    c.nodes-well_typed.ensures.well c.requires.marks c.loop-place-test.true refl c.loop-place.invariant c.in_ok-step.ensures

pub returns-clause-stands : goal.returns-clause-stands
returns-clause-stands c =
    let all : c.loop-place.place ≡ length c.args.marks.now = omega (arith, c.loop-place-test.false, c.loop-place.auto.place-end) in
    subst (λ n. AreStanding c.args.terms.now c.args.marks.now n c.args.inputs.atoms.items c.loop-place.gates c.loop-place.words.items) all c.loop-place.invariant
