use Rattle.std.specs.Prelude.{IfSome}
use Rattle.std.proofs.Common.{◌-ℤ◌, [], ◌∷◌, subst, rules, refl}
use Rattle.std.proofs.lemmas.Int.{to_z-of_z}
use Rattle.std.specs.Int.{w128}
use mir.Val.{SFits}
use Rattle.uc_simplify.specs.Forms.{IsFormOf, number_at}
use Rattle.uc_simplify.specs.Integers.{AreSides, IsSumOf}
use Rattle.uc_simplify.proofs.Gathered.{form_integers}
use Rattle.uc_simplify.proofs.Standing.{Grows-trans}
use Rattle.uc_simplify.proofs.Sides.{integers_on, sides_integers, compared_suits, two_there, type_kept, sides_rebuild}
use Rattle.uc_simplify.proofs.linear.compared.Goals as goal

pub sum_of-requires : goal.sum_of-requires
sum_of-requires c =
    let x = subst (λ o. IfSome o (λ f. IsFormOf c.args.terms.now (c.args.a ∷ c.args.b ∷ []) f (λ m. number_at m c.args.terms.now c.args.a -ℤ number_at m c.args.terms.now c.args.b))) c.in-Some.is c.in_ok-form.ensures in
    let s = subst (λ o. IfSome o (λ s. AreSides s.left.items s.right.items c.pairs.result.now)) c.in-Some-2.is c.in_ok-sides.ensures in
    record { integers = rw c.deref.ensures.value (sides_integers c.args.terms.now c.in-Some-2.sides.left.items c.pairs.result.now s.left_variables (form_integers c.args.terms.now (c.args.a ∷ c.args.b ∷ []) c.in-Some.form (λ m. number_at m c.args.terms.now c.args.a -ℤ number_at m c.args.terms.now c.args.b) c.pairs.result.now c.pairs.ensures.value x)) }

pub sum_of-requires-2 : goal.sum_of-requires-2
sum_of-requires-2 c =
    let x = subst (λ o. IfSome o (λ f. IsFormOf c.args.terms.now (c.args.a ∷ c.args.b ∷ []) f (λ m. number_at m c.args.terms.now c.args.a -ℤ number_at m c.args.terms.now c.args.b))) c.in-Some.is c.in_ok-form.ensures in
    let s = subst (λ o. IfSome o (λ s. AreSides s.left.items s.right.items c.pairs.result.now)) c.in-Some-2.is c.in_ok-sides.ensures in
    record {
      integers = rw c.deref-2.ensures.value (integers_on c.args.terms.now c.sum_of.new.terms c.in-Some-2.sides.right.items c.sum_of.ensures.grown
          (sides_integers c.args.terms.now c.in-Some-2.sides.right.items c.pairs.result.now s.right_variables (form_integers c.args.terms.now (c.args.a ∷ c.args.b ∷ []) c.in-Some.form (λ m. number_at m c.args.terms.now c.args.a -ℤ number_at m c.args.terms.now c.args.b) c.pairs.result.now c.pairs.ensures.value x)));
    }

pub put_two-requires-clause-there : goal.put_two-requires-clause-there
put_two-requires-clause-there c = two_there c.sum_of.new.terms c.sum_of-2.new.terms c.in_ok-left.left c.in_ok-right.right c.sum_of-2.ensures.grown c.in_ok-left.ensures.sum.there c.in_ok-right.ensures.sum.there

pub put_two-requires-clause-suits : goal.put_two-requires-clause-suits
put_two-requires-clause-suits c =
    compared_suits c.sum_of-2.new.terms c.args.op.now c.in_ok-left.left c.in_ok-right.right c.requires.compares
    (type_kept c.sum_of.new.terms c.sum_of-2.new.terms c.in_ok-left.left c.sum_of-2.ensures.grown c.in_ok-left.ensures.sum.there c.in_ok-left.ensures.sum.ty) c.in_ok-right.ensures.sum.ty

pub returns-clause-rebuilt : goal.returns-clause-rebuilt
returns-clause-rebuilt c =
    let x = subst (λ o. IfSome o (λ f. IsFormOf c.args.terms.now (c.args.a ∷ c.args.b ∷ []) f (λ m. number_at m c.args.terms.now c.args.a -ℤ number_at m c.args.terms.now c.args.b))) c.in-Some.is c.in_ok-form.ensures in
    let s = subst (λ o. IfSome o (λ s. AreSides s.left.items s.right.items c.pairs.result.now)) c.in-Some-2.is c.in_ok-sides.ensures in
    let first : SFits w128 c.in-Some-across.first = search rules in
    let second : SFits w128 c.in-Some-across.second = search rules in
    let constant : SFits w128 c.constant.result = search rules in
    let e = simp to_z-of_z at c.in-Some-across.ensures in
    let p = simp to_z-of_z at c.in_ok-left.ensures.sum in
    let q = simp to_z-of_z at c.in_ok-right.ensures.sum in
    sides_rebuild c.args.terms.now c.sum_of.new.terms c.sum_of-2.new.terms c.put_two.new.terms c.args.op.now c.args.op.now c.args.a c.args.b c.in_ok-left.left c.in_ok-right.right c.in_ok-whole.whole (c.in_ok-left.left ∷ c.in_ok-right.right ∷ []) c.in-Some.form c.constant.result c.in-Some-across.first c.in-Some-across.second
    c.pairs.result.now c.in-Some-2.sides.left.items c.in-Some-2.sides.right.items c.len-count.ensures.well c.sum_of.ensures.well c.requires.left c.requires.right c.requires.left_integer c.requires.right_integer c.requires.compares x c.constant.ensures c.pairs.ensures.value e s
    c.sum_of.ensures.grown c.sum_of-2.ensures.grown (subst (IsSumOf c.sum_of.new.terms c.in_ok-left.left c.args.terms.now c.in-Some-across.first) c.deref.ensures.value p)
    (subst (IsSumOf c.sum_of-2.new.terms c.in_ok-right.right c.sum_of.new.terms c.in-Some-across.second) c.deref-2.ensures.value q) refl refl c.in_ok-whole.ensures.rebuilt

pub returns-in_err-right-clause-grown : goal.returns-in_err-right-clause-grown
returns-in_err-right-clause-grown c = Grows-trans _ _ _ c.sum_of.ensures.grown c.sum_of-2.ensures.grown

pub returns-in_err-whole-clause-grown : goal.returns-in_err-whole-clause-grown
returns-in_err-whole-clause-grown c = Grows-trans _ _ _ c.sum_of.ensures.grown (Grows-trans _ _ _ c.sum_of-2.ensures.grown c.put_two.ensures.grown)

pub returns-clause-grown : goal.returns-clause-grown
returns-clause-grown c = Grows-trans _ _ _ c.sum_of.ensures.grown (Grows-trans _ _ _ c.sum_of-2.ensures.grown c.put_two.ensures.grown)
