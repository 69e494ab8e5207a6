use Rattle.std.proofs.Common.{◌∙◌, sym, arith}
use Rattle.uc_simplify_steps.proofs.Identities.{out_right}
use Rattle.uc_simplify_steps.proofs.words.shifted_out.Goals as goal

pub returns : goal.returns
returns c =
    out_right c.args.terms.now c.args.op.now c.args.a c.args.b c.in-Bv.width c.in-Some-Bv.field-0-0 c.in-Some-Bv.amount c.in-Some-Bv.field-0.now c.zero.result c.len-count.ensures.well c.requires.left c.requires.suits (sym c.ty.ensures.ty ∙ c.in-Bv.is)
    c.in-Some-Bv.ensures c.in-Some-Bv.field-0-is (sym c.if-not-fills_with_zero.ensures) (omega (arith, c.from.ensures, c.if-amount-from.false, c.in-Some-Bv.amount-is)) c.zero.ensures
