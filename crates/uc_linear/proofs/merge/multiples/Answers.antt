use Rattle.std.proofs.Common.{subst, pos}
use Rattle.std.specs.Int.{w128}
use mir.Val.{SFits, to_z, of_z}
use Rattle.std.proofs.lemmas.Int.{to_z-of_z}
use Rattle.std.proofs.lemmas.List.{take_all}
use Rattle.uc_linear.proofs.Joinings.{NarrowProducts, multiples_step, multiples_narrow}
use Rattle.uc_linear.proofs.merge.multiples.Goals as goal

pub loop-pair-preserved : goal.loop-pair-preserved
loop-pair-preserved c =
    multiples_step (to_z w128 (of_z w128 c.args.k)) c.args.pairs.now c.push.new.self.items c.loop-pair.products.items c.loop-pair.pair-index (0, pos 0) c.in_ok-multiple.field-0
    c.loop-pair-test.true c.in_ok-push.ensures.items c.in_ok-multiple.ensures.ok c.in_ok-multiple.ensures.narrow c.loop-pair.invariant

pub returns-clause-narrow : goal.returns-clause-narrow
returns-clause-narrow c =
    let fits : SFits w128 c.args.k = c.ranges.k in
    let i = simp to_z-of_z at c.loop-pair.invariant.1 in
    multiples_narrow c.args.k c.args.pairs.now (subst (NarrowProducts c.args.k) (take_all c.loop-pair.pair-index c.args.pairs.now c.loop-pair-test.false) i)
