use Rattle.std.proofs.Common.{refl, pos, neg_ℤ}
use Rattle.uc_simplify.proofs.Forms.{less_right}
use Rattle.uc_simplify.proofs.gathering.less_form.Goals as goal

pub returns : goal.returns
returns c =
    less_right c.args.terms.now c.args.a c.args.b c.in_ok-form.form c.in_ok-left.left c.in_ok-right.right (pos 1) (neg_ℤ (pos 1)) refl refl c.in_ok-form.ensures.ok c.in_ok-left.ensures c.in_ok-right.ensures
