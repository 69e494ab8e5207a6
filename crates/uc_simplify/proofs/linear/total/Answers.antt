use Rattle.std.specs.Prelude.{IfSome}
use Rattle.std.proofs.Common.{refl, subst, rules}
use Rattle.std.proofs.lemmas.Int.{to_z-of_z}
use Rattle.std.specs.Int.{w128}
use mir.Val.{SFits}
use Rattle.uc_ops.specs.declared.op.Op.TheVariants.{Add}
use Rattle.uc_simplify.specs.Forms.{IsFormOf, numbers_at}
use Rattle.uc_simplify.proofs.Opened.{typed_all}
use Rattle.uc_simplify.proofs.Gathered.{form_integers, form_rebuilds, some_parts}
use Rattle.uc_simplify.proofs.linear.total.Goals as goal

pub sum_form-requires-clause-integers : goal.sum_form-requires-clause-integers
sum_form-requires-clause-integers c = typed_all c.args.terms.now c.args.parts.now c.requires.suits.1

pub sum_of-requires : goal.sum_of-requires
sum_of-requires c =
    let x = subst (λ o. IfSome o (λ f. IsFormOf c.args.terms.now c.args.parts.now f (λ m. numbers_at m c.args.terms.now c.args.parts.now))) c.in-Some.is c.in_ok-form.ensures in
    record { integers = form_integers c.args.terms.now c.args.parts.now c.in-Some.form (λ m. numbers_at m c.args.terms.now c.args.parts.now) c.pairs.result.now c.pairs.ensures.value x }

pub returns-clause-rebuilt : goal.returns-clause-rebuilt
returns-clause-rebuilt c =
    let x = subst (λ o. IfSome o (λ f. IsFormOf c.args.terms.now c.args.parts.now f (λ m. numbers_at m c.args.terms.now c.args.parts.now))) c.in-Some.is c.in_ok-form.ensures in
    let fits : SFits w128 c.constant.result = search rules in
    let s = simp to_z-of_z at c.in_ok-sum.ensures.sum in
    form_rebuilds c.sum_of.new.terms c.args.terms.now c.in_ok-sum.sum Add c.args.parts.now c.in-Some.form c.constant.result c.pairs.result.now (λ m. numbers_at m c.args.terms.now c.args.parts.now) (some_parts c.args.terms.now c.args.parts.now c.requires.suits.0) c.requires.there
    (typed_all c.args.terms.now c.args.parts.now c.requires.suits.1) refl (λ m. refl) x c.constant.ensures c.pairs.ensures.value s
