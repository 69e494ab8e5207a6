use Rattle.std.proofs.lemmas.Int.{to_z-of_z}
use Rattle.std.specs.Int.{w128}
use mir.Val.{SFits}
use Rattle.uc_simplify.proofs.Forms.{times_right}
use Rattle.uc_simplify.proofs.gathering.times_form.Goals as goal

pub returns : goal.returns
returns c =
    let fits : SFits w128 c.args.factor = c.ranges.factor in
    let s = simp to_z-of_z at c.in_ok-form.ensures.ok in
    times_right c.args.terms.now c.args.a c.in_ok-form.form c.in_ok-part.part c.args.factor s c.in_ok-part.ensures
