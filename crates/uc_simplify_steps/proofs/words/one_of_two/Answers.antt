use Rattle.std.proofs.Common.{◌≡◌, ◌∙◌, sym, ap, true}
use Rattle.uc_simplify_steps.specs.Steps.{is_neutral, is_absorbing}
use Rattle.uc_simplify_steps.proofs.Identities.{neutral_known, absorbing_known}
use Rattle.uc_simplify_steps.proofs.words.one_of_two.Goals as goal

pub returns-then-is_neutral : goal.returns-then-is_neutral
returns-then-is_neutral c =
    let e : is_neutral c.args.op.now c.in-Bv.width c.in-Some-Bv.bits ≡ true = sym (ap (is_neutral c.args.op.now c.in-Bv.width) c.in-Some-Bv.bits-is) ∙ sym c.if-is_neutral.ensures in
    neutral_known c.args.terms.now c.args.op.now c.args.a c.args.b c.in-Bv.width c.in-Some-Bv.field-0-0 c.in-Some-Bv.bits c.in-Some-Bv.field-0.now c.len-count.ensures.well c.requires.left c.requires.suits (sym c.ty.ensures.ty ∙ c.in-Bv.is)
    c.in-Some-Bv.ensures c.in-Some-Bv.field-0-is e

pub returns-then-is_absorbing : goal.returns-then-is_absorbing
returns-then-is_absorbing c =
    let e : is_absorbing c.args.op.now c.in-Bv.width c.in-Some-Bv.bits ≡ true = sym (ap (is_absorbing c.args.op.now c.in-Bv.width) c.in-Some-Bv.bits-is) ∙ sym c.if-is_absorbing.ensures in
    absorbing_known c.args.terms.now c.args.op.now c.args.a c.args.b c.in-Bv.width c.in-Some-Bv.field-0-0 c.in-Some-Bv.bits c.in-Some-Bv.field-0.now c.len-count.ensures.well c.requires.left c.requires.right c.requires.suits (sym c.ty.ensures.ty ∙ c.in-Bv.is)
    c.in-Some-Bv.ensures c.in-Some-Bv.field-0-is e
