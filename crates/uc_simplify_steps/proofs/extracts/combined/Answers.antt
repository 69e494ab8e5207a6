use Rattle.std.proofs.Common.{◌≡◌, [], ◌∷◌, rules}
use Rattle.uc_values.specs.declared.ty.Ty.TheVariants.{Bv}
use Rattle.uc_ops.specs.Typing.{type_at}
use Rattle.uc_simplify_steps.proofs.Singles.{combined_replaces}
use Rattle.uc_simplify_steps.proofs.extracts.combined.Goals as goal

pub returns : goal.returns
returns c =
    let typed : type_at c.args.terms.now c.in-Some.part ≡ Bv c.in-Bv.width = search rules in
    let own : c.in_ok-parts.parts ≡ c.in-Some.part ∷ [] = search rules in
    combined_replaces c.args.terms.now c.args.op.now c.in-Some.inner.now c.in-Some-joint.next c.args.a c.in-Some.part c.in-Bv.width c.in_ok-parts.parts c.len-count.ensures.well c.in-Some.ensures.applied c.in-Some.ensures.there typed c.in-Some-joint.ensures
    c.requires.suits own
