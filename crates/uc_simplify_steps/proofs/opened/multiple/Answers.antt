use Rattle.std.proofs.Common.{◌∙◌, sym, ap, subst, Some, [], ◌∷◌, arith, rules}
use Rattle.std.proofs.lemmas.Int.{to_z-of_z}
use Rattle.std.specs.Int.{w128}
use mir.Val.{SFits}
use Rattle.uc_ops.specs.declared.op.Op.TheVariants.{Scale}
use Rattle.uc_simplify_steps.specs.Steps.{IsApplied}
use Rattle.uc_simplify_steps.proofs.Applied.{applied, one_listed}
use Rattle.uc_simplify_steps.proofs.opened.multiple.Goals as goal

pub returns-in-Scale-len1 : goal.returns-in-Scale-len1
returns-in-Scale-len1 c =
    let fits : SFits w128 c.in-Scale-len1.factor = search rules in
    subst (λ z. IsApplied c.args.terms.now c.args.t (Scale z) (c.part-item.result ∷ [])) (sym (to_z-of_z w128 c.in-Scale-len1.factor fits))
    (applied c.args.terms.now c.args.t _ (c.part-item.result ∷ []) c.op.ensures.well c.requires (c.op.ensures.op ∙ ap Some c.in-Scale-len1.is-0)
    (one_listed c.parts.result.now c.part-item.result (omega (arith, c.in-Scale-len1.len_at_least, c.in-Scale-len1.len_below)) c.part-item.is ∙ c.parts.ensures.parts))
