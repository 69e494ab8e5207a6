use Rattle.std.proofs.Common.{◌∙◌, ap, Some}
use Rattle.uc_simplify.proofs.Opened.{total_found}
use Rattle.uc_simplify.proofs.opening.addends.Goals as goal

pub returns-in-Add : goal.returns-in-Add
returns-in-Add c = total_found c.args.terms.now c.args.t c.parts-parts.result.now c.op.ensures.well c.requires (c.op.ensures.op ∙ ap Some c.in-Add.is) c.parts-parts.ensures.parts
