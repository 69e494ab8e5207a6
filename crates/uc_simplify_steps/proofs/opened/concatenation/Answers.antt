use Rattle.std.proofs.Common.{◌∙◌, ap, Some, [], ◌∷◌, arith}
use Rattle.uc_simplify_steps.proofs.Applied.{applied, two_listed}
use Rattle.uc_simplify_steps.proofs.opened.concatenation.Goals as goal

pub returns-in-Concat-len2-clause-applied : goal.returns-in-Concat-len2-clause-applied
returns-in-Concat-len2-clause-applied c =
    applied c.args.terms.now c.args.t _ (c.high-item.result ∷ c.low-item.result ∷ []) c.op.ensures.well c.requires (c.op.ensures.op ∙ ap Some c.in-Concat-len2.is-0)
    (two_listed c.parts.result.now c.high-item.result c.low-item.result (omega (arith, c.in-Concat-len2.len_at_least, c.in-Concat-len2.len_below)) c.high-item.is c.low-item.is ∙ c.parts.ensures.parts)
