use Rattle.std.proofs.Common.{ℕ, [], ◌∷◌, ◌++◌, sym, ap, ◌∙◌, subst}
use Rattle.std.specs.Prelude.{Err}
use Rattle.std.proofs.lemmas.Result.{err_from_is_err_and}
use Rattle.uc_linear.specs.declared.exact.Wide.{Wide}
use Rattle.uc_linear.specs.Exact.{OnWide}
use Rattle.uc_obligations.specs.Reading.{AreConstantsOf, MeetsIn}
use Rattle.uc_obligations.proofs.Read.{trace_is}
use Rattle.uc_obligations.proofs.Told.{untold}
use Rattle.uc_obligations.proofs.Meeting.{wide_there}
use Rattle.uc_obligations.proofs.reading.trace_of.Goals as goal

pub returns-then-not-is_true-clause-told : goal.returns-then-not-is_true-clause-told
returns-then-not-is_true-clause-told c =
    untold c.args.f.now c.args.terms.now c.args.goal _ c.args.states.now c.in-Some.constants _ _ _ _ _ c.args.model _ c.len.ensures.well (subst (AreConstantsOf c.args.f.now c.args.model) c.in-Some.is c.in_ok-constants.ensures)
    c.as_slice.ensures c.in_ok-model.ensures c.len.ensures.len c.in_ok-all.ensures c.as_slice-2.ensures c.in_ok-values.ensures.ok c.as_slice-all_values.ensures.value c.requires (sym c.if-not-is_true.ensures)

pub returns-clause-told : goal.returns-clause-told
returns-clause-told c =
    trace_is c.args.f.now c.args.terms.now c.args.goal _ c.args.states.now c.in-Some.constants _ _ _ _ _ c.args.model _ _ _ (subst (AreConstantsOf c.args.f.now c.args.model) c.in-Some.is c.in_ok-constants.ensures)
    c.as_slice.ensures c.in_ok-model.ensures c.len.ensures.len c.in_ok-all.ensures c.as_slice-2.ensures c.in_ok-values.ensures.ok c.as_slice-all_values.ensures.value c.requires (sym c.if-not-is_true.ensures) c.in_ok-positions.ensures (c.in_ok-push.ensures.ok ∙ ap (λ cs. cs ++ c.in_ok-positions.positions ∷ []) c.new-copies.ensures)

pub returns-in_err-values-clause-wide : goal.returns-in_err-values-clause-wide
returns-in_err-values-clause-wide c =
    let p = err_from_is_err_and c.from_residual-in_err-values.result c.from_residual-in_err-values.ensures.1 in
    let Met : Wide → Type 0 = MeetsIn c.args.f.now c.args.terms.now c.args.model in
    subst (λ r. OnWide r Met) (sym p.1) (subst (λ e. OnWide {A = ℕ} (Err e) Met) (sym p.2)
    (wide_there ℕ ℕ c.args.f.now c.args.terms.now _ c.in-Some.constants _ _ _ c.args.model _ c.in_err-values.field-0.0 (subst (AreConstantsOf c.args.f.now c.args.model) c.in-Some.is c.in_ok-constants.ensures)
    c.as_slice.ensures c.in_ok-model.ensures c.len.ensures.len c.in_ok-all.ensures c.as_slice-2.ensures c.in_err-values.ensures.wide))
