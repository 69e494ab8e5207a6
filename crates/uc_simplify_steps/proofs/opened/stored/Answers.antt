use Rattle.std.proofs.Common.{◌∙◌, ap, Some, [], ◌∷◌, arith}
use Rattle.uc_simplify_steps.proofs.Applied.{applied, three_listed}
use Rattle.uc_simplify_steps.proofs.opened.stored.Goals as goal

pub returns-in-Store-len3-clause-applied : goal.returns-in-Store-len3-clause-applied
returns-in-Store-len3-clause-applied c =
    applied c.args.terms.now c.args.t _ (c.array-item.result ∷ c.index-item.result ∷ c.element-item.result ∷ []) c.op.ensures.well c.requires (c.op.ensures.op ∙ ap Some c.in-Store-len3.is-0)
    (three_listed c.parts.result.now c.array-item.result c.index-item.result c.element-item.result (omega (arith, c.in-Store-len3.len_at_least, c.in-Store-len3.len_below)) c.array-item.is c.index-item.is c.element-item.is ∙ c.parts.ensures.parts)
