use Rattle.std.proofs.Common.{◌∙◌, ap, Some}
use Rattle.uc_simplify_steps.proofs.Applied.{applied}
use Rattle.uc_simplify_steps.proofs.opened.record_parts.Goals as goal

pub returns-in-MkRec : goal.returns-in-MkRec
returns-in-MkRec c = applied c.args.terms.now c.args.t _ c.parts.result.now c.op.ensures.well c.requires (c.op.ensures.op ∙ ap Some c.in-MkRec.is) c.parts.ensures.parts
