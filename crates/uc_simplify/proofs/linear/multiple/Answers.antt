use Rattle.std.specs.Prelude.{IfSome}
use Rattle.std.proofs.Common.{◌<◌, ◌≡◌, ◌*ℤ◌, [], ◌∷◌, length, arith, subst, ap, refl, rules}
use Rattle.std.proofs.Math.IntN.{*ℤ_comm}
use Rattle.std.proofs.lemmas.Int.{to_z-of_z}
use Rattle.std.proofs.lemmas.List.Elements.{All-nil, All-cons}
use Rattle.std.specs.Int.{w128}
use mir.Val.{SFits}
use Rattle.uc_values.specs.declared.ty.Ty.TheVariants.{Int as Integer}
use Rattle.uc_values.specs.declared.value.Value.TheVariants.{Int}
use Rattle.uc_ops.specs.declared.op.Op.TheVariants.{Scale}
use Rattle.uc_ops.specs.Typing.{type_at}
use Rattle.uc_simplify.specs.Forms.{IsFormOf, number_at}
use Rattle.uc_simplify.proofs.Gathered.{form_integers, form_rebuilds, one_type}
use Rattle.uc_simplify.proofs.linear.multiple.Goals as goal

pub multiple_form-requires-clause-integer : goal.multiple_form-requires-clause-integer
multiple_form-requires-clause-integer c = one_type (type_at c.args.terms.now c.args.a) c.requires.suits

pub sum_of-requires : goal.sum_of-requires
sum_of-requires c =
    let fits : SFits w128 c.args.factor = c.ranges.factor in
    let e = simp to_z-of_z at c.in_ok-form.ensures in
    let x = subst (λ o. IfSome o (λ f. IsFormOf c.args.terms.now (c.args.a ∷ []) f (λ m. number_at m c.args.terms.now c.args.a *ℤ c.args.factor))) c.in-Some.is e in
    record { integers = form_integers c.args.terms.now (c.args.a ∷ []) c.in-Some.form (λ m. number_at m c.args.terms.now c.args.a *ℤ c.args.factor) c.pairs.result.now c.pairs.ensures.value x }

pub returns-clause-rebuilt : goal.returns-clause-rebuilt
returns-clause-rebuilt c =
    let fits : SFits w128 c.args.factor = c.ranges.factor in
    let e = simp to_z-of_z at c.in_ok-form.ensures in
    let x = subst (λ o. IfSome o (λ f. IsFormOf c.args.terms.now (c.args.a ∷ []) f (λ m. number_at m c.args.terms.now c.args.a *ℤ c.args.factor))) c.in-Some.is e in
    let constant : SFits w128 c.constant.result = search rules in
    let s = simp to_z-of_z at c.in_ok-sum.ensures.sum in
    form_rebuilds c.sum_of.new.terms c.args.terms.now c.in_ok-sum.sum (Scale c.args.factor) (c.args.a ∷ []) c.in-Some.form c.constant.result c.pairs.result.now (λ m. number_at m c.args.terms.now c.args.a *ℤ c.args.factor) (omega arith)
    (All-cons (λ p. p < length c.args.terms.now) c.args.a [] c.requires.there (All-nil (λ p. p < length c.args.terms.now)))
    (All-cons (λ p. type_at c.args.terms.now p ≡ Integer) c.args.a [] (one_type (type_at c.args.terms.now c.args.a) c.requires.suits) (All-nil (λ p. type_at c.args.terms.now p ≡ Integer)))
    refl (λ m. ap Int (*ℤ_comm (number_at m c.args.terms.now c.args.a) c.args.factor)) x c.constant.ensures c.pairs.ensures.value s
