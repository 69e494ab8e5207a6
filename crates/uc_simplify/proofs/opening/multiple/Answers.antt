use Rattle.std.proofs.Common.{◌∙◌, sym, ap, subst, refl, pos, Some, arith, rules}
use Rattle.std.proofs.lemmas.Int.{to_z-of_z}
use Rattle.std.specs.Int.{w128}
use mir.Val.{SFits}
use Rattle.uc_simplify.specs.Forms.{IsTimes}
use Rattle.uc_simplify.proofs.Opened.{times_found, times_itself, one_listed}
use Rattle.uc_simplify.proofs.opening.multiple.Goals as goal

pub returns-in-Scale-len1 : goal.returns-in-Scale-len1
returns-in-Scale-len1 c =
    let fits : SFits w128 c.in-Scale-len1.factor = search rules in
    subst (λ z. IsTimes c.args.terms.now c.args.t z c.part-item.result) (sym (to_z-of_z w128 c.in-Scale-len1.factor fits))
    (times_found c.args.terms.now c.args.t c.part-item.result c.in-Scale-len1.factor c.parts.result.now c.op.ensures.well c.requires.there (c.op.ensures.op ∙ ap Some c.in-Scale-len1.is-0) c.parts.ensures.parts
    (one_listed c.parts.result.now c.part-item.result (omega (arith, c.in-Scale-len1.len_at_least, c.in-Scale-len1.len_below)) c.part-item.is))

pub returns-in_default : goal.returns-in_default
returns-in_default c = times_itself c.args.terms.now c.args.t (pos 1) c.requires.there c.requires.integer refl
