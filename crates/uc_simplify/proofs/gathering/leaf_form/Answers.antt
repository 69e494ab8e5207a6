use Rattle.std.proofs.Common.{rules, [], ◌∷◌, ◌≡◌, ◌*ℤ◌}
use Rattle.std.proofs.lemmas.Int.{to_z-of_z}
use Rattle.std.specs.Int.{w128}
use mir.Val.{SFits}
use Rattle.uc_linear.specs.Linear.{Linear}
use Rattle.uc_simplify.proofs.Forms.{constant_found, single_right}
use Rattle.uc_simplify.proofs.gathering.leaf_form.Goals as goal

pub returns-in_ok-whole-in-Some : goal.returns-in_ok-whole-in-Some
returns-in_ok-whole-in-Some c =
    let factor_fits : SFits w128 c.multiple-factor.result.0 = search rules in
    let constant_fits : SFits w128 c.in-Some.constant = search rules in
    let whole_fits : SFits w128 c.in_ok-whole-in-Some.whole = search rules in
    let e = simp to_z-of_z at c.in_ok-whole-in-Some.ensures.ok in
    let g = simp to_z-of_z at c.number.ensures in
    constant_found c.args.terms.now c.args.t c.multiple-factor.result.1 c.multiple-factor.result.0 c.in-Some.constant c.in_ok-whole-in-Some.whole c.number.result c.multiple-factor.ensures c.in-Some.ensures e g

pub returns-in_ok-form-in-None : goal.returns-in_ok-form-in-None
returns-in_ok-form-in-None c =
    let factor_fits : SFits w128 c.multiple-factor.result.0 = search rules in
    let s = simp to_z-of_z at c.in_ok-form-in-None.ensures in
    single_right c.args.terms.now c.args.t c.multiple-factor.result.1 c.multiple-factor.result.0 c.in_ok-form-in-None.form c.multiple-factor.ensures s
