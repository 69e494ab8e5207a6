use Rattle.std.proofs.Common.{◌∙◌, sym, [], ◌∷◌, arith}
use Rattle.uc_simplify_steps.proofs.Applied.{applied, one_listed}
use Rattle.uc_simplify_steps.proofs.opened.single.Goals as goal

pub returns-in-len1-clause-applied : goal.returns-in-len1-clause-applied
returns-in-len1-clause-applied c =
    applied c.args.terms.now c.args.t _ (c.part-item.result ∷ []) c.op.ensures.well c.requires c.op.ensures.op
    (one_listed c.parts.result.now c.part-item.result (omega (arith, c.in-len1.len_at_least, c.in-len1.len_below)) c.part-item.is ∙ c.parts.ensures.parts)
