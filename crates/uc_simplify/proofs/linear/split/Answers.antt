use Rattle.std.proofs.Common.{pos, get_or, refl, rules}
use Rattle.std.proofs.lemmas.Int.{to_z-of_z}
use Rattle.std.proofs.lemmas.List.{get_or_default}
use Rattle.std.specs.Int.{w128}
use mir.Val.{SFits}
use Rattle.uc_linear.specs.Linear.{Pair}
use Rattle.uc_simplify.proofs.Sides.{Split-start, Split-left, Split-right, Split-end}
use Rattle.uc_simplify.proofs.linear.split.Goals as goal
use Rattle.uc_simplify.proofs.linear.split.Goals.{then-factor-gt0+in_ok-push, else-factor-gt0+in-Ok+in_ok-push-2}

pub loop-place-init : goal.loop-place-init
loop-place-init c = Split-start c.args.pairs.now c.new-left.result.items c.new-right.result.items c.new-left.ensures.items c.new-right.ensures.items

pub loop-place-preserved : goal.loop-place-preserved
loop-place-preserved c =
    let x : Pair = get_or c.args.pairs.now c.loop-place.place (0, pos 0) in
    let there = get_or_default c.args.pairs.now c.loop-place.place (0, pos 0) x c.loop-place-test.true in
    let fits : SFits w128 x.1 = search rules in
    elim c.if-factor-gt0.branch [
      | then-factor-gt0+in_ok-push w ↦
          let q = simp to_z-of_z at w.in_ok-push.ensures.items in
          rw (w.left-is, w.right-is) (Split-left c.loop-place.left.items w.push.new.self.items c.loop-place.right.items c.args.pairs.now c.loop-place.place x x c.loop-place-test.true there refl q c.loop-place.invariant)
      | else-factor-gt0+in-Ok+in_ok-push-2 w ↦
          let e = simp to_z-of_z at w.in-Ok.ensures.ok in
          let opposite : SFits w128 w.in-Ok.opposite = search rules in
          let q = simp to_z-of_z at w.in_ok-push-2.ensures.items in
          rw (w.left-is, w.right-is) (Split-right c.loop-place.left.items c.loop-place.right.items w.push-else-factor-gt0.new.self.items c.args.pairs.now c.loop-place.place x (x.0, w.in-Ok.opposite) c.loop-place-test.true there refl e q c.loop-place.invariant)
    ]

pub returns : goal.returns
returns c = Split-end c.loop-place.left.items c.loop-place.right.items c.args.pairs.now c.loop-place.place c.loop-place-test.false c.loop-place.invariant
