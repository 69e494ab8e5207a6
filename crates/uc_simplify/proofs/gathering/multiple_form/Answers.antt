use Rattle.std.proofs.Common.{◌*ℤ◌, [], ◌∷◌}
use Rattle.std.proofs.lemmas.Int.{to_z-of_z}
use Rattle.std.specs.Int.{w128}
use mir.Val.{SFits}
use Rattle.uc_simplify.specs.Forms.{number_at}
use Rattle.uc_simplify.proofs.Forms.{form_listed}
use Rattle.uc_simplify.proofs.gathering.multiple_form.Goals as goal

pub returns-in-Ok : goal.returns-in-Ok
returns-in-Ok c =
    let fits : SFits w128 c.args.factor = c.ranges.factor in
    let x = simp to_z-of_z at c.in-Ok.ensures in
    form_listed c.args.terms.now (c.args.a ∷ []) c.in-Ok.form (λ m. number_at m c.args.terms.now c.args.a *ℤ c.args.factor) c.pairs-pairs.ensures.rises x
