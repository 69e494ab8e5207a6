use Rattle.std.proofs.Common.{◌∙◌}
use Rattle.uc_meaning.specs.Steps.{scope_of}
use Rattle.uc_evaluator.proofs.Told.{told_all}
use Rattle.uc_executions.specs.Judged.{falsity_asked}
use Rattle.uc_executions.proofs.Questions.{gives}
use Rattle.uc_executions.proofs.judged.is_false_of_all.Goals as goal

pub returns-clause-value : goal.returns-clause-value
returns-clause-value c =
    gives c.is_false.result
    (λ k. (falsity_asked c.args.layout.now (record (scope_of c.args.interp.now c.args.path.now (c.no_state-state.ensures k)) { copies = (c.as_slice.ensures ∙ c.in_ok-states.ensures) k }) c.args.formula.now).holds)
    c.is_false.ensures.value

pub returns-clause-wide : goal.returns-clause-wide
returns-clause-wide c =
    told_all _ _ c.is_false.result
    (λ k. (falsity_asked c.args.layout.now (record (scope_of c.args.interp.now c.args.path.now (c.no_state-state.ensures k)) { copies = (c.as_slice.ensures ∙ c.in_ok-states.ensures) k }) c.args.formula.now).met)
    c.is_false.ensures.wide
