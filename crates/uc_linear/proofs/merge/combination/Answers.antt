use Rattle.std.proofs.Common.{arith, ◌+◌, ◌≡◌, ◌≢◌, pos, rules, ◌∙◌, ℤ, Err}
use Rattle.std.specs.Int.{w128}
use mir.Val.{SFits}
use Rattle.std.proofs.lemmas.Int.{ints, to_z-of_z}
use Rattle.uc_linear.proofs.Sums.{merge_push, merge_skip, merge_known, merge_sums, after_shorter, first_same}
use Rattle.uc_linear.proofs.Joinings.{combining, terms_narrow, term_at, term_same, OnWide-terms}
use Rattle.uc_linear.proofs.merge.combination.Goals as goal

pub both-smaller-in_ok-push : goal.both-smaller-in_ok-push
both-smaller-in_ok-push c =
    after_shorter c.both.left.now c.both.right.now c.split_off-k.result.1.now c.split_off-m.result.1.now c.in-Some.variable c.in-Some.ensures c.split_off-k.ensures.rest c.split_off-m.ensures.rest

pub both-smaller : goal.both-smaller
both-smaller c =
    after_shorter c.both.left.now c.both.right.now c.split_off-k.result.1.now c.split_off-m.result.1.now c.in-Some.variable c.in-Some.ensures c.split_off-k.ensures.rest c.split_off-m.ensures.rest

pub both-preserved-in_ok-push : goal.both-preserved-in_ok-push
both-preserved-in_ok-push c =
    let fp : SFits w128 c.args.p = c.ranges.p in
    let fq : SFits w128 c.args.q = c.ranges.q in
    let z = c.in_ok-both.both in
    let fits : SFits w128 z = search rules in
    let fk : SFits w128 c.split_off-k.result.0 = search rules in
    let fm : SFits w128 c.split_off-m.result.0 = search rules in
    let ok = simp to_z-of_z at c.in_ok-both.ensures.ok in
    let narrow = simp to_z-of_z at c.in_ok-both.ensures.narrow in
    let m = simp to_z-of_z at c.both.invariant.1 in
    let some : z ≢ pos 0 = omega (arith, ints, c.if-both-ne0.true) in
    let sum = term_same c.args.p c.args.q c.both.left.now c.both.right.now c.in-Some.variable c.split_off-k.result.0 c.split_off-m.result.0 z ok c.split_off-k.ensures.first c.split_off-m.ensures.first in
    let known = term_at c.args.p c.args.q c.both.left.now c.both.right.now c.in-Some.variable c.split_off-k.result.0 c.split_off-m.result.0 c.split_off-k.ensures.first c.split_off-m.ensures.first narrow in (
      c.in-Some.variable + 1,
      rw (to_z-of_z w128 c.args.p fp, to_z-of_z w128 c.args.q fq, c.in_ok-push.ensures.items, to_z-of_z w128 z fits) (merge_push (combining c.args.p c.args.q) c.args.a.now c.args.b.now c.both.merged.items c.both.left.now c.both.right.now c.split_off-k.result.1.now c.split_off-m.result.1.now c.both.invariant.0 c.in-Some.variable z
          c.split_off-k.ensures.rest c.split_off-m.ensures.rest c.in-Some.ensures sum some known m),
    )

pub both-preserved : goal.both-preserved
both-preserved c =
    let fp : SFits w128 c.args.p = c.ranges.p in
    let fq : SFits w128 c.args.q = c.ranges.q in
    let z = c.in_ok-both.both in
    let fk : SFits w128 c.split_off-k.result.0 = search rules in
    let fm : SFits w128 c.split_off-m.result.0 = search rules in
    let none : z ≡ pos 0 = omega (arith, ints, c.if-both-ne0.false) in
    let ok = simp to_z-of_z at c.in_ok-both.ensures.ok in
    let narrow = simp to_z-of_z at c.in_ok-both.ensures.narrow in
    let sum = term_same c.args.p c.args.q c.both.left.now c.both.right.now c.in-Some.variable c.split_off-k.result.0 c.split_off-m.result.0 z ok c.split_off-k.ensures.first c.split_off-m.ensures.first in
    let known = term_at c.args.p c.args.q c.both.left.now c.both.right.now c.in-Some.variable c.split_off-k.result.0 c.split_off-m.result.0 c.split_off-k.ensures.first c.split_off-m.ensures.first narrow in
    let m = simp to_z-of_z at c.both.invariant.1 in (
      c.in-Some.variable + 1,
      rw (to_z-of_z w128 c.args.p fp, to_z-of_z w128 c.args.q fq) (merge_skip (combining c.args.p c.args.q) c.args.a.now c.args.b.now c.both.merged.items c.both.left.now c.both.right.now c.split_off-k.result.1.now c.split_off-m.result.1.now c.both.invariant.0 c.in-Some.variable z
          c.split_off-k.ensures.rest c.split_off-m.ensures.rest c.in-Some.ensures sum none known m),
    )

pub returns-clause-sums : goal.returns-clause-sums
returns-clause-sums c =
    let fp : SFits w128 c.args.p = c.ranges.p in
    let fq : SFits w128 c.args.q = c.ranges.q in
    let m = simp to_z-of_z at c.both.invariant.1 in
    merge_sums (combining c.args.p c.args.q) c.args.a.now c.args.b.now c.both.merged.items c.both.left.now c.both.right.now c.both.invariant.0 c.in_default.ensures m

pub returns-clause-narrow : goal.returns-clause-narrow
returns-clause-narrow c =
    let fp : SFits w128 c.args.p = c.ranges.p in
    let fq : SFits w128 c.args.q = c.ranges.q in
    let m = simp to_z-of_z at c.both.invariant.1 in
    terms_narrow c.args.p c.args.q c.args.a.now c.args.b.now
    (merge_known (combining c.args.p c.args.q) c.args.a.now c.args.b.now c.both.merged.items c.both.left.now c.both.right.now c.both.invariant.0 c.in_default.ensures m)

pub returns-in_err-both-clause-wide : goal.returns-in_err-both-clause-wide
returns-in_err-both-clause-wide c =
    let fp : SFits w128 c.args.p = c.ranges.p in
    let fq : SFits w128 c.args.q = c.ranges.q in
    let fk : SFits w128 c.split_off-k.result.0 = search rules in
    let fm : SFits w128 c.split_off-m.result.0 = search rules in
    let wide = simp to_z-of_z at c.in_err-both.ensures.wide in
    let m = simp to_z-of_z at c.both.invariant.1 in
    let same = first_same (combining c.args.p c.args.q) c.args.a.now c.args.b.now c.both.merged.items c.both.left.now c.both.right.now c.both.invariant.0 c.in-Some.variable c.in-Some.ensures m in
    let met = OnWide-terms {A = ℤ} c.args.p c.args.q c.args.a.now c.args.b.now c.in-Some.variable c.split_off-k.result.0 c.split_off-m.result.0 (Err c.in_err-both.field-0.0) (c.split_off-k.ensures.first ∙ same.0) (c.split_off-m.ensures.first ∙ same.1) wide in
    search (rules, met)
