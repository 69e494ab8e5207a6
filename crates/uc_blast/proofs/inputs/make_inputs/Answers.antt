use Rattle.std.specs.Prelude.{◌≡◌, ◌+◌, [], length}
use Rattle.std.proofs.Common.{refl, sym, arith, subst}
use Rattle.uc_blast.specs.Walk.{AreInputs}
use Rattle.uc_blast.proofs.Asked.{inputs-none, inputs-more}
use Rattle.uc_blast.proofs.inputs.make_inputs.Goals as goal

pub loop-place-init : goal.loop-place-init
loop-place-init c =
    let words = subst (AreInputs c.args.terms.now c.args.t c.args.marks.now 0 []) (sym c.new-words.ensures.items) (inputs-none c.args.terms.now c.args.t c.args.marks.now) in
    subst (λ xs. AreInputs c.args.terms.now c.args.t c.args.marks.now 0 xs c.new-words.result.items) (sym c.new-atoms.ensures.items) words

pub input_at-requires : goal.input_at-requires
input_at-requires c = omega (arith, c.loop-place-test.true, c.requires.marks.within)

pub loop-place-preserved : goal.loop-place-preserved
loop-place-preserved c =
    subst (AreInputs c.args.terms.now c.args.t c.args.marks.now (c.loop-place.place + 1) c.input_at.new.atoms.items) (sym c.in_ok-push.ensures.items)
    (inputs-more c.args.terms.now c.args.t c.args.marks.now c.loop-place.place c.loop-place.atoms.items c.input_at.new.atoms.items c.loop-place.words.items c.in_ok-word.word _
    c.nodes-well_typed.ensures.well c.requires.blastable c.requires.marks c.loop-place-test.true refl c.loop-place.invariant c.in_ok-word.ensures)

pub returns : goal.returns
returns c =
    let all : c.loop-place.place ≡ length c.args.marks.now = omega (arith, c.loop-place-test.false, c.loop-place.auto.place-end) in
    subst (λ n. AreInputs c.args.terms.now c.args.t c.args.marks.now n c.loop-place.atoms.items c.loop-place.words.items) all c.loop-place.invariant
