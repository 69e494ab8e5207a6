use Rattle.std.proofs.Common.{Some, None, true, false, ap, ◌∙◌, sym, subst}
use Rattle.std.specs.Bool.{Decides}
use Rattle.uc_meaning.specs.Runs.{copies_scope, states_at}
use Rattle.uc_meaning.specs.Lines.{IsFalseAt}
use Rattle.uc_operators.specs.Overflows.{first_wide}
use Rattle.uc_evaluator.proofs.Told.{told_all}
use Rattle.uc_executions.specs.Judged.{falsity_asked, falsity_in_copies, falsity_at}
use Rattle.uc_executions.proofs.Questions.{decided_as}
use Rattle.uc_executions.proofs.Truths.{falsity_decided}
use Rattle.uc_executions.proofs.judged.is_false_at.Goals as goal

pub returns-then-judged-clause-value : goal.returns-then-judged-clause-value
returns-then-judged-clause-value c =
    decided_as (falsity_asked c.args.layout.now (copies_scope c.args.interp.now c.args.path.now (states_at c.args.position c.args.copies.now)) c.in-Some.judged.formula.now).holds c.is_false_of_all.result
    (subst (λ o. Decides (falsity_asked c.args.layout.now (copies_scope c.args.interp.now c.args.path.now (states_at c.args.position c.args.copies.now)) c.in-Some.judged.formula.now).holds (IsFalseAt c.args.layout.now c.args.interp.now c.args.path.now c.args.copies.now c.args.position o))
    ((λ k. Some (sym c.if-judged.true k, c.in-Some.judged.formula.now)) ∙ c.in-Some.ensures)
    (falsity_decided c.args.layout.now c.args.interp.now c.args.path.now c.args.copies.now c.args.position (Some (true, c.in-Some.judged.formula.now))))
    c.is_false_of_all.ensures.value

pub returns-then-judged-clause-wide : goal.returns-then-judged-clause-wide
returns-then-judged-clause-wide c =
    told_all _ _ c.is_false_of_all.result
    (ap (λ o. (falsity_at c.args.layout.now c.args.interp.now c.args.path.now c.args.copies.now c.args.position o).met) ((λ k. Some (sym c.if-judged.true k, c.in-Some.judged.formula.now)) ∙ c.in-Some.ensures))
    c.is_false_of_all.ensures.wide

pub returns-else-judged-clause-value : goal.returns-else-judged-clause-value
returns-else-judged-clause-value c =
    decided_as (falsity_in_copies c.args.layout.now c.args.interp.now c.args.path.now c.args.copies.now c.args.position c.in-Some.judged.formula.now).holds c.is_false_in_each.result
    (subst (λ o. Decides (falsity_in_copies c.args.layout.now c.args.interp.now c.args.path.now c.args.copies.now c.args.position c.in-Some.judged.formula.now).holds (IsFalseAt c.args.layout.now c.args.interp.now c.args.path.now c.args.copies.now c.args.position o))
    ((λ k. Some (sym c.if-judged.false k, c.in-Some.judged.formula.now)) ∙ c.in-Some.ensures)
    (falsity_decided c.args.layout.now c.args.interp.now c.args.path.now c.args.copies.now c.args.position (Some (false, c.in-Some.judged.formula.now))))
    c.is_false_in_each.ensures.value

pub returns-else-judged-clause-wide : goal.returns-else-judged-clause-wide
returns-else-judged-clause-wide c =
    told_all _ _ c.is_false_in_each.result
    (ap (λ o. (falsity_at c.args.layout.now c.args.interp.now c.args.path.now c.args.copies.now c.args.position o).met) ((λ k. Some (sym c.if-judged.false k, c.in-Some.judged.formula.now)) ∙ c.in-Some.ensures))
    c.is_false_in_each.ensures.wide

pub returns-in-None-clause-value : goal.returns-in-None-clause-value
returns-in-None-clause-value c =
    subst (λ o. Decides false (IsFalseAt c.args.layout.now c.args.interp.now c.args.path.now c.args.copies.now c.args.position o)) c.in-None.ensures
    (falsity_decided c.args.layout.now c.args.interp.now c.args.path.now c.args.copies.now c.args.position None)

pub returns-in-None-clause-wide : goal.returns-in-None-clause-wide
returns-in-None-clause-wide c =
    ap (λ o. first_wide (falsity_at c.args.layout.now c.args.interp.now c.args.path.now c.args.copies.now c.args.position o).met) (sym c.in-None.ensures)
