use Rattle.std.proofs.Common.{rules, ℤ, Err, ◌∙◌}
use Rattle.std.specs.Int.{w128}
use mir.Val.{SFits}
use Rattle.std.proofs.lemmas.Int.{to_z-of_z}
use Rattle.uc_linear.specs.Linear.{Linear}
use Rattle.uc_linear.proofs.Joinings.{OnWide-constants, OnWide-pairs, combination_narrow}
use Rattle.uc_linear.proofs.form.combine.Goals as goal

pub returns-in_err-constant-clause-wide : goal.returns-in_err-constant-clause-wide
returns-in_err-constant-clause-wide c =
    let fp : SFits w128 c.args.p = c.ranges.p in
    let fq : SFits w128 c.args.q = c.ranges.q in
    let fr : SFits w128 c.r.inside.constant = search rules in
    let fs : SFits w128 c.s.inside.constant = search rules in
    let r : Linear = record { constant = c.r.inside.constant; pairs = c.r.inside.pairs.items } in
    let s : Linear = record { constant = c.s.inside.constant; pairs = c.s.inside.pairs.items } in
    let wide = simp to_z-of_z at c.in_err-constant.ensures.wide in
    let met = OnWide-constants {A = ℤ} c.args.p c.args.q r s (Err c.in_err-constant.field-0.0) wide in
    rw (← c.r.view_is, ← c.s.view_is) (search (rules, met))

pub returns-in_err-pairs-clause-wide : goal.returns-in_err-pairs-clause-wide
returns-in_err-pairs-clause-wide c =
    let fp : SFits w128 c.args.p = c.ranges.p in
    let fq : SFits w128 c.args.q = c.ranges.q in
    let r : Linear = record { constant = c.r.inside.constant; pairs = c.r.inside.pairs.items } in
    let s : Linear = record { constant = c.s.inside.constant; pairs = c.s.inside.pairs.items } in
    let wide = simp (to_z-of_z, c.deref.ensures.value, c.deref-2.ensures.value) at c.in_err-pairs.ensures.wide in
    let met = OnWide-pairs {A = ℤ} c.args.p c.args.q r s (Err c.in_err-pairs.field-0.0) wide in
    rw (← c.r.view_is, ← c.s.view_is) (search (rules, met))

pub returns-clause-ok : goal.returns-clause-ok
returns-clause-ok c =
    let fp : SFits w128 c.args.p = c.ranges.p in
    let fq : SFits w128 c.args.q = c.ranges.q in
    let fr : SFits w128 c.r.inside.constant = search rules in
    let fs : SFits w128 c.s.inside.constant = search rules in
    let fc : SFits w128 c.in_ok-constant.constant = search rules in
    let ok = simp to_z-of_z at c.in_ok-constant.ensures.ok in
    let sums = simp (to_z-of_z, c.deref.ensures.value, c.deref-2.ensures.value) at c.in_ok-pairs.ensures.sums in
    rw (← c.r.view_is, ← c.s.view_is) (record { constant = to_z-of_z w128 c.in_ok-constant.constant fc ∙ ok; pairs = sums })

pub returns-clause-narrow : goal.returns-clause-narrow
returns-clause-narrow c =
    let fp : SFits w128 c.args.p = c.ranges.p in
    let fq : SFits w128 c.args.q = c.ranges.q in
    let fr : SFits w128 c.r.inside.constant = search rules in
    let fs : SFits w128 c.s.inside.constant = search rules in
    let r : Linear = record { constant = c.r.inside.constant; pairs = c.r.inside.pairs.items } in
    let s : Linear = record { constant = c.s.inside.constant; pairs = c.s.inside.pairs.items } in
    let one = simp to_z-of_z at c.in_ok-constant.ensures.narrow in
    let all = simp (to_z-of_z, c.deref.ensures.value, c.deref-2.ensures.value) at c.in_ok-pairs.ensures.narrow in
    rw (← c.r.view_is, ← c.s.view_is) (combination_narrow c.args.p c.args.q r s one all)
