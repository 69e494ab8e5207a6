use Rattle.std.proofs.Common.{None, refl, sym, subst}
use Rattle.std.specs.Prelude.{IfOk}
use Rattle.std.specs.Bool.{Decides}
use Rattle.uc_meaning.specs.Lines.{formula_of, IsFalseAt, FailsAt}
use Rattle.uc_operators.specs.Overflows.{first_wide, TellsWide}
use Rattle.uc_executions.specs.Judged.{falsity_at}
use Rattle.uc_checks.specs.Tellings.{Tells}
use Rattle.uc_checks.specs.Walks.{Lists}
use Rattle.uc_checks.specs.Refutations.{SubjectTells}
use Rattle.uc_checks.proofs.Told.{of_met}
use Rattle.uc_checks.proofs.RefutingJudging.{subject_at, no_subject}
use Rattle.uc_checks.proofs.copies.subject_fails.Goals as goal

pub returns-in-Formula-clause-value : goal.returns-in-Formula-clause-value
returns-in-Formula-clause-value c =
    subst (λ w. IfOk c.is_false_at.result (λ b. Decides b (FailsAt c.args.trial.now.layout.now c.args.trial.now.interp.now c.args.trial.now.copies.now c.args.trial.now.steps (Lists c.args.beginning c.args.trial.now.layout.now c.args.trial.now.interp.now) w))) (sym c.in-Formula.is)
    (subst (λ p. IfOk c.is_false_at.result (λ b. Decides b (IsFalseAt c.args.trial.now.layout.now c.args.trial.now.interp.now p c.args.trial.now.copies.now c.args.trial.now.steps (formula_of c.args.trial.now.layout.now p c.in-Formula.decl)))) c.as_slice-path.ensures c.is_false_at.ensures.value)

pub returns-in-Formula-clause-wide : goal.returns-in-Formula-clause-wide
returns-in-Formula-clause-wide c =
    subst (λ w. Tells (SubjectTells c.args.trial.now.layout.now c.args.trial.now.interp.now c.args.trial.now.copies.now c.args.trial.now.steps w) c.is_false_at.result) (sym c.in-Formula.is)
    (of_met (falsity_at c.args.trial.now.layout.now c.args.trial.now.interp.now c.in-Formula.path c.args.trial.now.copies.now c.args.trial.now.steps (formula_of c.args.trial.now.layout.now c.in-Formula.path c.in-Formula.decl)).met c.is_false_at.result
    (subst (λ p. TellsWide (first_wide (falsity_at c.args.trial.now.layout.now c.args.trial.now.interp.now p c.args.trial.now.copies.now c.args.trial.now.steps (formula_of c.args.trial.now.layout.now p c.in-Formula.decl)).met) c.is_false_at.result) c.as_slice-path.ensures c.is_false_at.ensures.wide))

pub returns-in-AtSite-clause-value : goal.returns-in-AtSite-clause-value
returns-in-AtSite-clause-value c = subject_at c.args.beginning c.args.trial.now.layout.now c.args.trial.now.interp.now c.args.trial.now.copies.now c.args.trial.now.steps c.args.trial.now.line.now.what _ c.args.listed c.in-AtSite.is c.requires

pub returns-in-AtSite-clause-wide : goal.returns-in-AtSite-clause-wide
returns-in-AtSite-clause-wide c = subst (λ w. SubjectTells c.args.trial.now.layout.now c.args.trial.now.interp.now c.args.trial.now.copies.now c.args.trial.now.steps w None) (sym c.in-AtSite.is) refl

pub returns-in-Ensures-clause-value : goal.returns-in-Ensures-clause-value
returns-in-Ensures-clause-value c = no_subject c.args.beginning c.args.trial.now.layout.now c.args.trial.now.interp.now c.args.trial.now.copies.now c.args.trial.now.steps c.args.trial.now.line.now.what _ c.in-Ensures.is

pub returns-in-Ensures-clause-wide : goal.returns-in-Ensures-clause-wide
returns-in-Ensures-clause-wide c = subst (λ w. SubjectTells c.args.trial.now.layout.now c.args.trial.now.interp.now c.args.trial.now.copies.now c.args.trial.now.steps w None) (sym c.in-Ensures.is) refl
