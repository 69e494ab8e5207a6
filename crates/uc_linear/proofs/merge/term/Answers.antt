use Rattle.std.proofs.Common.{arith, rules}
use Rattle.std.specs.Int.{w128}
use mir.Val.{SFits}
use Rattle.std.proofs.lemmas.Int.{ints, to_z-of_z}
use Rattle.uc_linear.specs.Exact.{IsNarrow}
use Rattle.uc_linear.proofs.Joinings.{term_narrow}
use Rattle.std.specs.Prelude.{◌+ℤ◌, ◌*ℤ◌}
use Rattle.uc_linear.proofs.merge.term.Goals as goal

pub returns-clause-ok : goal.returns-clause-ok
returns-clause-ok c =
    let fp : SFits w128 c.args.p = c.ranges.p in
    let fk : SFits w128 c.args.k = c.ranges.k in
    let fq : SFits w128 c.args.q = c.ranges.q in
    let fm : SFits w128 c.args.m = c.ranges.m in
    let fl : SFits w128 c.in_ok-left.left = search rules in
    let fr : SFits w128 c.in_ok-right.right = search rules in
    let fb : SFits w128 c.in_ok-both.both = search rules in
    let l = simp to_z-of_z at c.in_ok-left.ensures.ok in
    let r = simp to_z-of_z at c.in_ok-right.ensures.ok in
    let b = simp to_z-of_z at c.in_ok-both.ensures.ok in
    omega (arith, ints, l, r, b)

pub returns-clause-narrow : goal.returns-clause-narrow
returns-clause-narrow c =
    let fp : SFits w128 c.args.p = c.ranges.p in
    let fk : SFits w128 c.args.k = c.ranges.k in
    let fq : SFits w128 c.args.q = c.ranges.q in
    let fm : SFits w128 c.args.m = c.ranges.m in
    let fl : SFits w128 c.in_ok-left.left = search rules in
    let fr : SFits w128 c.in_ok-right.right = search rules in
    let l = simp to_z-of_z at c.in_ok-left.ensures.ok in
    let r = simp to_z-of_z at c.in_ok-right.ensures.ok in
    let nl = simp to_z-of_z at c.in_ok-left.ensures.narrow in
    let nr = simp to_z-of_z at c.in_ok-right.ensures.narrow in
    let nb = simp to_z-of_z at c.in_ok-both.ensures.narrow in
    let both : IsNarrow (c.args.p *ℤ c.args.k +ℤ c.args.q *ℤ c.args.m) = record { low = omega (arith, ints, nb.low, l, r); high = omega (arith, ints, nb.high, l, r) } in
    term_narrow c.args.p c.args.k c.args.q c.args.m nl nr both

pub returns-in_err-both-clause-wide : goal.returns-in_err-both-clause-wide
returns-in_err-both-clause-wide c =
    let fp : SFits w128 c.args.p = c.ranges.p in
    let fk : SFits w128 c.args.k = c.ranges.k in
    let fq : SFits w128 c.args.q = c.ranges.q in
    let fm : SFits w128 c.args.m = c.ranges.m in
    let fl : SFits w128 c.in_ok-left.left = search rules in
    let fr : SFits w128 c.in_ok-right.right = search rules in
    let l = simp to_z-of_z at c.in_ok-left.ensures.ok in
    let r = simp to_z-of_z at c.in_ok-right.ensures.ok in
    let err = simp to_z-of_z at c.in_err-both.ensures.err in
    let met = rw (l, r) at err in
    search (rules, met)
