use Rattle.std.proofs.Common.{◌≡◌, pos, refl, [], ◌∷◌, rules}
use Rattle.std.proofs.lemmas.Int.{to_z-of_z}
use Rattle.std.specs.Int.{w128}
use mir.Val.{SFits}
use Rattle.uc_ops.specs.declared.op.Op.TheVariants.{Scale}
use Rattle.uc_simplify_steps.proofs.Integers.{once_known, scaled_replaces}
use Rattle.uc_simplify_steps.proofs.sums.scaled.Goals as goal

pub returns-then-factor-eq1 : goal.returns-then-factor-eq1
returns-then-factor-eq1 c =
    let e : c.args.factor ≡ pos 1 = search rules in
    once_known c.args.terms.now c.args.factor c.args.a c.len-count.ensures.well c.requires.there c.requires.suits e

pub returns : goal.returns
returns c =
    let fits : SFits w128 c.args.factor = c.ranges.factor in
    let inside : SFits w128 c.in-Some.inner = search rules in
    let e = simp to_z-of_z at c.in-Ok.ensures.ok in
    let q : c.in_ok-parts.parts ≡ c.in-Some.part ∷ [] = search rules in
    let r = scaled_replaces c.args.terms.now c.args.factor c.in-Some.inner c.in-Ok.whole c.args.a _ (Scale _) c.in_ok-parts.parts refl c.in-Some.ensures e q in
    search rules
