use Rattle.std.proofs.Common.{◌∙◌, sym, ap}
use Rattle.uc_ops.specs.Typing.{is_constant}
use Rattle.uc_simplify_steps.proofs.Identities.{turned_pair}
use Rattle.uc_simplify_steps.proofs.words.reordered.Goals as goal

pub returns : goal.returns
returns c =
    turned_pair c.args.terms.now c.args.op.now c.in_ok-op.op c.args.a c.args.b c.in_ok-parts.parts c.len-count.ensures.well c.requires.left c.requires.right c.requires.suits (sym c.if-not-is_commutative.ensures)
    (ap is_constant (sym c.ty.ensures.ty) ∙ sym c.if-not-is_constant.ensures) c.in_ok-op.ensures c.in_ok-parts.ensures
