use Rattle.std.proofs.Common.{◌∙◌, ap, Some, arith}
use Rattle.uc_simplify_steps.proofs.Booleans.{negation_found, single}
use Rattle.uc_simplify_steps.proofs.truths.negated.Goals as goal

pub returns-in-Not-len1 : goal.returns-in-Not-len1
returns-in-Not-len1 c =
    negation_found c.args.terms.now c.args.t c.part-item.result c.parts.result.now c.op.ensures.well c.requires (c.op.ensures.op ∙ ap Some c.in-Not-len1.is-0) c.parts.ensures.parts
    (single c.parts.result.now c.part-item.result (omega (arith, c.in-Not-len1.len_at_least, c.in-Not-len1.len_below)) c.part-item.is)
