use Rattle.std.proofs.Common.{ap, ◌∙◌, subst}
use Rattle.uc_meaning.specs.Lookup.{main_module, module_at}
use Rattle.uc_meaning.specs.Ends.{IsEnd}
use Rattle.uc_operators.specs.Overflows.{first_wide, TellsWide}
use Rattle.uc_executions.specs.Executions.{entry_at, body_ending, body_met}
use Rattle.uc_executions.proofs.Declaring.{at_main, same_module, if_ok_as, not_main}
use Rattle.uc_executions.proofs.entry.execution_end.Goals as goal

pub returns-in_ok-scope-in-Some-clause-value : goal.returns-in_ok-scope-in-Some-clause-value
returns-in_ok-scope-in-Some-clause-value c =
    if_ok_as c.body_end.result
    (λ end ends m some.
    subst (λ s. IsEnd c.args.choices.now end (body_ending c.args.layout.now m c.args.procedure.now s c.args.choices.now))
    (c.in_ok-scope-in-Some.ensures ∙ ap (λ n. entry_at c.args.layout.now n c.args.interp.now c.args.procedure.now c.args.entry.now c.args.arguments.now) (same_module c.in-Some.code.now m ((c.in-Some.ensures ∙ ap main_module c.system.ensures) ∙ some)))
    (ends m (ap (λ s. module_at c.args.layout.now s.path) c.in_ok-scope-in-Some.ensures ∙ at_main c.args.layout.now m some)))
    c.body_end.ensures.value

pub returns-in_ok-scope-in-Some-clause-wide : goal.returns-in_ok-scope-in-Some-clause-wide
returns-in_ok-scope-in-Some-clause-wide c = λ m some.
    subst (λ s. TellsWide (first_wide (body_met c.args.layout.now m c.args.procedure.now s c.args.choices.now)) c.body_end.result)
    (c.in_ok-scope-in-Some.ensures ∙ ap (λ n. entry_at c.args.layout.now n c.args.interp.now c.args.procedure.now c.args.entry.now c.args.arguments.now) (same_module c.in-Some.code.now m ((c.in-Some.ensures ∙ ap main_module c.system.ensures) ∙ some)))
    (c.body_end.ensures.wide m (ap (λ s. module_at c.args.layout.now s.path) c.in_ok-scope-in-Some.ensures ∙ at_main c.args.layout.now m some))

pub returns-in-None-clause-value : goal.returns-in-None-clause-value
returns-in-None-clause-value c = λ m some. absurd (not_main m (c.in-None.ensures ∙ ap main_module c.system.ensures ∙ some))

pub returns-in-None-clause-wide : goal.returns-in-None-clause-wide
returns-in-None-clause-wide c = λ m some. absurd (not_main m (c.in-None.ensures ∙ ap main_module c.system.ensures ∙ some))
