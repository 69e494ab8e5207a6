use Rattle.std.proofs.Common.{◌∙◌, ◌++◌, ◌∷◌, [], ◌<◌, ap, sym, subst, length, Some, Err, rules}
use Rattle.std.specs.Prelude.{IfSome}
use Rattle.std.proofs.lemmas.Result.{err_from_is_err_and}
use Rattle.uc_ops.specs.Typing.{fields_of}
use Rattle.uc_flat.specs.declared.expression.Expression.{Expression}
use Rattle.uc_flat.specs.declared.expression.Expression.TheVariants.{Cell as ReadCell}
use Rattle.uc_flat_expressions.specs.Answers.{IsAnswer}
use Rattle.uc_flat_code.specs.Code.{replaced_in}
use Rattle.uc_flat_code.specs.Walk.{behind}
use Rattle.uc_flat_code.proofs.Replaced.{none_left, whole_answer, no_place, field_at, inner_err, outer_answer}
use Rattle.uc_flat_code.proofs.parts.+replaced_in.Goals as goal

pub returns-in_default : goal.returns-in_default
returns-in_default t c = whole_answer (behind (ReadCell c.args.cell) c.args.places) c.args.ty.now c.args.parts.now c.args.t c.whole_of.result (none_left c.args.parts.now c.in_default.ensures.cases) c.whole_of.ensures

pub returns-in_err-place : goal.returns-in_err-place
returns-in_err-place t c =
    let whole = behind (ReadCell c.args.cell) c.args.places in
    let p = err_from_is_err_and c.from_residual.result c.from_residual.ensures.1 in
    let none = no_place whole c.args.ty.now c.args.parts.now c.in-Some.first.now c.in-Some.rest.now c.args.t (search rules) (sym c.named_place.ensures.place ∙ c.in_err-place.ensures.err.0) in
    subst (IsAnswer {A = Expression} (replaced_in whole c.args.ty.now c.args.parts.now c.args.t)) (sym p.1)
    (subst (λ e. IsAnswer {A = Expression} (replaced_in whole c.args.ty.now c.args.parts.now c.args.t) (Err e)) (sym (p.2 ∙ c.in_err-place.ensures.err.1)) none)

pub returns-in_err-inner : goal.returns-in_err-inner
returns-in_err-inner t c =
    let whole = behind (ReadCell c.args.cell) c.args.places in
    let k = c.in_ok-place.place in
    let p = err_from_is_err_and c.from_residual-in_err-inner.result c.from_residual-in_err-inner.ensures.1 in
    let there = subst (λ o. IfSome o (λ j. j < length (fields_of c.args.ty.now))) c.in_ok-place.ensures.ok.0 c.named_place.ensures.there in
    let deeper = ap (λ xs. Some (xs ++ k ∷ [])) (sym c.as_slice.ensures) ∙ subst (IsAnswer (Some (c.as_slice.result.now ++ k ∷ []))) c.in_ok-t.ensures.1 c.deeper.ensures in
    let own = inner_err c.args.cell c.args.places c.in_ok-t.deeper c.args.ty.now c.args.parts.now c.in-Some.first.now c.in-Some.rest.now c.in_ok-t.t k c.index-fields_of-place.result c.in_err-inner.field-0.0
    (search rules) (sym c.named_place.ensures.place ∙ c.in_ok-place.ensures.ok.0) (field_at _ _ k _ c.fields_of.ensures there c.index-fields_of-place.is) deeper c.in_err-inner.ensures in
    let same = subst (λ u. IsAnswer {A = Expression} (replaced_in whole c.args.ty.now c.args.parts.now u) (Err c.in_err-inner.field-0.0)) (c.in_ok-t.ensures.0 ∙ c.in_ok-place.ensures.ok.1) own in
    subst (IsAnswer {A = Expression} (replaced_in whole c.args.ty.now c.args.parts.now c.args.t)) (sym p.1) (subst (λ e. IsAnswer {A = Expression} (replaced_in whole c.args.ty.now c.args.parts.now c.args.t) (Err e)) (sym p.2) same)

pub returns : goal.returns
returns t c =
    let k = c.in_ok-place.place in
    let there = subst (λ o. IfSome o (λ j. j < length (fields_of c.args.ty.now))) c.in_ok-place.ensures.ok.0 c.named_place.ensures.there in
    let deeper = ap (λ xs. Some (xs ++ k ∷ [])) (sym c.as_slice.ensures) ∙ subst (IsAnswer (Some (c.as_slice.result.now ++ k ∷ []))) c.in_ok-t.ensures.1 c.deeper.ensures in
    outer_answer c.args.cell c.args.places c.in_ok-t.deeper c.args.ty.now c.args.parts.now c.in-Some.first.now c.in-Some.rest.now c.args.t c.in_ok-t.t k c.index-fields_of-place.result c.in_ok-inner.inner _ (c.in_ok-t.ensures.0 ∙ c.in_ok-place.ensures.ok.1)
    (search rules) (sym c.named_place.ensures.place ∙ c.in_ok-place.ensures.ok.0) (field_at _ _ k _ c.fields_of.ensures there c.index-fields_of-place.is) deeper c.in_ok-inner.ensures (search rules)
