use Rattle.std.specs.Prelude.{◌≡◌, ◌++◌, length}
use Rattle.std.proofs.Common.{refl, sym, ap, ◌∙◌, arith, append-nil}
use Rattle.uc_blast.specs.Walk.{term_bits, variables_from}
use Rattle.uc_blast.proofs.Asking.{bits-more, variables-more}
use Rattle.uc_blast.proofs.inputs.input_word.Goals as goal

pub loop-bit-init : goal.loop-bit-init
loop-bit-init c = (sym (append-nil c.args.atoms.now.items), c.new-word.ensures.items)

pub loop-bit-preserved : goal.loop-bit-preserved
loop-bit-preserved c = (
  bits-more c.args.t c.loop-bit.bit c.args.atoms.now.items c.loop-bit.atoms.items c.input_bit.new.atoms.items c.loop-bit.invariant.0 c.in_ok-signal.ensures.atoms,
  variables-more (length c.args.atoms.now.items) c.loop-bit.bit c.args.t c.args.atoms.now.items c.loop-bit.atoms.items c.loop-bit.word.items c.push.new.self.items c.in_ok-signal.signal
      refl c.loop-bit.invariant.0 c.loop-bit.invariant.1 c.in_ok-signal.ensures.signal c.in_ok-push.ensures.items,
)

pub returns-clause-word : goal.returns-clause-word
returns-clause-word c =
    let all : c.loop-bit.bit ≡ c.args.width = omega (arith, c.loop-bit-test.false) in
    c.loop-bit.invariant.1 ∙ ap (variables_from (length c.args.atoms.now.items)) all

pub returns-clause-atoms : goal.returns-clause-atoms
returns-clause-atoms c =
    let all : c.loop-bit.bit ≡ c.args.width = omega (arith, c.loop-bit-test.false) in
    c.loop-bit.invariant.0 ∙ ap (λ i. c.args.atoms.now.items ++ term_bits c.args.t i) all
