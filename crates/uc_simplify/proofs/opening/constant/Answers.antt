use Rattle.std.proofs.Common.{◌∙◌, ap, Some}
use Rattle.uc_simplify.proofs.Opened.{value_found}
use Rattle.uc_simplify.proofs.opening.constant.Goals as goal

pub returns-in-Const : goal.returns-in-Const
returns-in-Const c = value_found c.args.terms.now c.args.t c.in-Const.field-0 c.in-Const.value c.op.ensures.well (c.op.ensures.op ∙ ap Some c.in-Const.is)
