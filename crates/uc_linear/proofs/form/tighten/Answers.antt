use Rattle.std.proofs.Common.{arith, rules, refl, sym, subst}
use Rattle.std.specs.Int.{w128}
use mir.Val.{SFits, to_z, of_z}
use Rattle.std.proofs.lemmas.Int.{to_z-of_z}
use Rattle.uc_linear.specs.Linear.{Linear, Rises}
use Rattle.uc_linear.specs.Tightening.{IsGreatestDivisor, IsCeiling, Tightens}
use Rattle.uc_linear.proofs.Dividing.{Rises-over, tightened, tight, points_same}
use Rattle.uc_linear.proofs.form.tighten.Goals as goal

pub invariant_of-form : goal.invariant_of-form
invariant_of-form c =
    let g = c.greatest_divisor-divisor.result in
    let e = subst (IsGreatestDivisor g) c.deref.ensures.value c.greatest_divisor-divisor.ensures in
    subst (Rises 0) (sym c.divide.ensures) (Rises-over g 0 c.form.inside.pairs.items e.divides c.form.invariant)

pub returns-then-divisor-gt1-clause-tightened : goal.returns-then-divisor-gt1-clause-tightened
returns-then-divisor-gt1-clause-tightened c =
    let g = c.greatest_divisor-divisor.result in
    let r = c.ceiling-form-inside.result in
    let e = subst (IsGreatestDivisor g) c.deref.ensures.value c.greatest_divisor-divisor.ensures in
    let fits : SFits w128 c.form.inside.constant = search rules in
    let kept : SFits w128 r = search rules in
    let k = simp to_z-of_z at c.ceiling-form-inside.ensures in
    let old : Linear = record { constant = c.form.inside.constant; pairs = c.form.inside.pairs.items } in
    let new : Linear = record { constant = to_z w128 (of_z w128 r); pairs = c.divide.new.pairs.items } in
    let rounded = subst (IsCeiling c.form.inside.constant g) (sym (to_z-of_z w128 r kept)) k in
    subst (λ (f : Linear). Tightens new f f.pairs) c.form.view_is (tightened new old g (omega (arith, c.if-divisor-gt1.true)) e c.divide.ensures rounded)

pub returns-then-divisor-gt1-clause-points : goal.returns-then-divisor-gt1-clause-points
returns-then-divisor-gt1-clause-points c =
    let g = c.greatest_divisor-divisor.result in
    let r = c.ceiling-form-inside.result in
    let e = subst (IsGreatestDivisor g) c.deref.ensures.value c.greatest_divisor-divisor.ensures in
    let fits : SFits w128 c.form.inside.constant = search rules in
    let kept : SFits w128 r = search rules in
    let k = simp to_z-of_z at c.ceiling-form-inside.ensures in
    let old : Linear = record { constant = c.form.inside.constant; pairs = c.form.inside.pairs.items } in
    let new : Linear = record { constant = r; pairs = c.divide.new.pairs.items } in
    let t = tightened new old g (omega (arith, c.if-divisor-gt1.true)) e c.divide.ensures k in
    rw (← c.form.view_is, to_z-of_z w128 r kept) (points_same new old old.pairs t)

pub returns-else-divisor-gt1-clause-tightened : goal.returns-else-divisor-gt1-clause-tightened
returns-else-divisor-gt1-clause-tightened c =
    let g = c.greatest_divisor-divisor.result in
    let e = subst (IsGreatestDivisor g) c.deref.ensures.value c.greatest_divisor-divisor.ensures in
    let old : Linear = record { constant = c.form.inside.constant; pairs = c.form.inside.pairs.items } in
    subst (λ (f : Linear). Tightens f f f.pairs) c.form.view_is (tight old g old.pairs refl (omega (arith, c.if-divisor-gt1.false)) c.form.invariant e)
