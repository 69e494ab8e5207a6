use Rattle.std.proofs.Common.{◌≡◌, ◌∙◌, sym}
use Rattle.uc_simplify_steps.proofs.Singles.{whole_known}
use Rattle.uc_simplify_steps.proofs.extracts.kept_whole.Goals as goal

pub returns : goal.returns
returns c = whole_known c.args.terms.now c.args.op.now c.args.a c.in-Bv.width c.len-count.ensures.well c.requires.there (sym c.ty.ensures.ty ∙ c.in-Bv.is) (sym c.if-not-keeps_all.ensures)
