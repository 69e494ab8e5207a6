use Rattle.std.proofs.Common.{[], None, false, ◌-◌, ap, ◌∙◌, sym, subst}
use Rattle.std.specs.Prelude.{slice_get}
use Rattle.std.specs.Bool.{Decides}
use Rattle.std.specs.List.{filter_map}
use Rattle.uc_meaning.specs.Runs.{ensures_in, ensures_of}
use Rattle.uc_meaning.specs.Lines.{EnsuresFails}
use Rattle.uc_meaning.specs.Ends.{begun}
use Rattle.uc_operators.specs.Overflows.{first_wide}
use Rattle.uc_evaluator.proofs.Told.{told_all}
use Rattle.uc_executions.proofs.Questions.{decided_as, gives}
use Rattle.uc_executions.specs.Executions.{ensures_asked}
use Rattle.uc_executions.proofs.Numbered.{ensures_decided}
use Rattle.uc_executions.proofs.ensured.ensures_fails.Goals as goal

pub returns-in-Some-clause-value : goal.returns-in-Some-clause-value
returns-in-Some-clause-value c =
    decided_as (ensures_asked c.args.layout.now c.args.entry.now c.args.exit.now (slice_get (ensures_of c.args.procedure.now) (c.args.number - 1))).holds c.is_false.result (ensures_decided c.args.layout.now c.args.entry.now c.args.exit.now (slice_get (ensures_of c.args.procedure.now) (c.args.number - 1)))
    (gives c.is_false.result (ap (λ o. (ensures_asked c.args.layout.now c.args.entry.now c.args.exit.now o).holds) (c.in-Some.ensures ∙ ap (λ cs. slice_get (filter_map ensures_in cs) c.saturating_sub-place.result) c.as_slice.ensures ∙ ap (slice_get (ensures_of c.args.procedure.now)) c.saturating_sub-place.ensures)) c.is_false.ensures.value)

pub returns-in-Some-clause-wide : goal.returns-in-Some-clause-wide
returns-in-Some-clause-wide c = told_all _ _ c.is_false.result (ap (λ o. (ensures_asked c.args.layout.now c.args.entry.now c.args.exit.now o).met) (c.in-Some.ensures ∙ ap (λ cs. slice_get (filter_map ensures_in cs) c.saturating_sub-place.result) c.as_slice.ensures ∙ ap (slice_get (ensures_of c.args.procedure.now)) c.saturating_sub-place.ensures)) c.is_false.ensures.wide

pub returns-in-None-clause-value : goal.returns-in-None-clause-value
returns-in-None-clause-value c = subst (λ o. Decides false (EnsuresFails c.args.layout.now c.args.entry.now (begun c.args.exit.now []) o)) (c.in-None.ensures ∙ ap (λ cs. slice_get (filter_map ensures_in cs) c.saturating_sub-place.result) c.as_slice.ensures ∙ ap (slice_get (ensures_of c.args.procedure.now)) c.saturating_sub-place.ensures) (ensures_decided c.args.layout.now c.args.entry.now c.args.exit.now None)

pub returns-in-None-clause-wide : goal.returns-in-None-clause-wide
returns-in-None-clause-wide c = ap (λ o. first_wide (ensures_asked c.args.layout.now c.args.entry.now c.args.exit.now o).met) (sym (c.in-None.ensures ∙ ap (λ cs. slice_get (filter_map ensures_in cs) c.saturating_sub-place.result) c.as_slice.ensures ∙ ap (slice_get (ensures_of c.args.procedure.now)) c.saturating_sub-place.ensures))
