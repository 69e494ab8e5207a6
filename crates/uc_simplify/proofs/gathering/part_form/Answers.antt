use Rattle.std.proofs.Common.{rules}
use Rattle.std.proofs.lemmas.Int.{to_z-of_z}
use Rattle.std.specs.Int.{w128}
use mir.Val.{SFits}
use Rattle.uc_simplify.proofs.Forms.{opened_right}
use Rattle.uc_simplify.proofs.gathering.part_form.Goals as goal

pub returns-in_ok-form-in-Some : goal.returns-in_ok-form-in-Some
returns-in_ok-form-in-Some c =
    let fits : SFits w128 c.multiple-factor.result.0 = search rules in
    let s = simp to_z-of_z at c.in_ok-form-in-Some.ensures.ok in
    opened_right c.args.terms.now c.args.t c.multiple-factor.result.1 c.in-Some.own.now c.multiple-factor.result.0 c.in_ok-form-in-Some.form c.in_ok-sum-in-Some.sum c.multiple-factor.ensures c.in-Some.ensures s c.in_ok-sum-in-Some.ensures
