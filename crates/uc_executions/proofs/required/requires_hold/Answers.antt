use Rattle.std.proofs.Common.{ap, ◌∙◌}
use Rattle.uc_meaning.specs.Code.{requires_in, requires_of}
use Rattle.uc_evaluator.proofs.Told.{told_all}
use Rattle.uc_executions.specs.Asked.{ask_each}
use Rattle.uc_executions.specs.Formulas.{truth_asked, truth_if}
use Rattle.uc_executions.proofs.Questions.{decided_as, gives}
use Rattle.uc_executions.proofs.ExecutionsAsking.{ask_stated, truths_decided}
use Rattle.uc_executions.proofs.required.requires_hold.Goals as goal

pub returns-clause-value : goal.returns-clause-value
returns-clause-value c =
    decided_as (ask_each (truth_asked c.args.layout.now c.args.scope.now) (requires_of c.args.procedure.now)).holds c.clauses_hold.result
    (truths_decided c.args.layout.now c.args.scope.now (requires_of c.args.procedure.now))
    (gives c.clauses_hold.result (ap (λ a. a.holds) (ap (ask_each (λ c'. truth_if c.args.layout.now c.args.scope.now (requires_in c'))) c.as_slice.ensures ∙ ask_stated c.args.layout.now c.args.scope.now requires_in c.args.procedure.now.clauses)) c.clauses_hold.ensures.value)

pub returns-clause-wide : goal.returns-clause-wide
returns-clause-wide c = told_all _ _ c.clauses_hold.result (ap (λ a. a.met) (ap (ask_each (λ c'. truth_if c.args.layout.now c.args.scope.now (requires_in c'))) c.as_slice.ensures ∙ ask_stated c.args.layout.now c.args.scope.now requires_in c.args.procedure.now.clauses)) c.clauses_hold.ensures.wide
