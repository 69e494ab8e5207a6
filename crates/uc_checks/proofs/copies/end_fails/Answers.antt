use Rattle.std.proofs.Common.{ℕ, ◌+◌, ◌<◌, rules}
use Rattle.std.specs.Prelude.{Bool}
use Rattle.uc_checks.specs.Refutations.{HyperaxiomsTell, AgreeAt, SubjectTells}
use Rattle.uc_checks.proofs.Told.{refused, none_decided, if_same, told_here, told_stop, told_next}
use Rattle.uc_checks.proofs.copies.end_fails.Goals as goal

pub returns-in_err-agree-clause-wide : goal.returns-in_err-agree-clause-wide
returns-in_err-agree-clause-wide c =
    let told = told_here (HyperaxiomsTell c.args.trial.now.layout.now c.args.trial.now.interp.now c.args.trial.now.line.now.arity c.args.trial.now.copies.now (c.args.trial.now.steps + 1)) ((k : ℕ) → k < c.args.trial.now.steps + 1 → AgreeAt c.args.trial.now.layout.now c.args.trial.now.interp.now c.args.trial.now.line.now.arity c.args.trial.now.copies.now k) (SubjectTells c.args.trial.now.layout.now c.args.trial.now.interp.now c.args.trial.now.copies.now c.args.trial.now.steps c.args.trial.now.line.now.what) Bool Bool c.in_err-agree.field-0.0 c.in_err-agree.ensures.wide in
    search (rules, told)

pub returns-then-not-agree-clause-value : goal.returns-then-not-agree-clause-value
returns-then-not-agree-clause-value c = none_decided (λ h. (refused c.in_ok-agree.agree c.in_ok-agree.ensures.value c.if-not-agree.true) h.0)

pub returns-then-not-agree-clause-wide : goal.returns-then-not-agree-clause-wide
returns-then-not-agree-clause-wide c = told_stop (HyperaxiomsTell c.args.trial.now.layout.now c.args.trial.now.interp.now c.args.trial.now.line.now.arity c.args.trial.now.copies.now (c.args.trial.now.steps + 1)) ((k : ℕ) → k < c.args.trial.now.steps + 1 → AgreeAt c.args.trial.now.layout.now c.args.trial.now.interp.now c.args.trial.now.line.now.arity c.args.trial.now.copies.now k) (SubjectTells c.args.trial.now.layout.now c.args.trial.now.interp.now c.args.trial.now.copies.now c.args.trial.now.steps c.args.trial.now.line.now.what) c.in_ok-agree.ensures.wide (refused c.in_ok-agree.agree c.in_ok-agree.ensures.value c.if-not-agree.true)

pub returns-clause-value : goal.returns-clause-value
returns-clause-value c = if_same c.subject_fails.result (λ h. ((c.in_ok-agree.ensures.value.0 c.if-not-agree.false), h)) (λ h. h.1) c.subject_fails.ensures.value

pub returns-clause-wide : goal.returns-clause-wide
returns-clause-wide c = told_next (HyperaxiomsTell c.args.trial.now.layout.now c.args.trial.now.interp.now c.args.trial.now.line.now.arity c.args.trial.now.copies.now (c.args.trial.now.steps + 1)) ((k : ℕ) → k < c.args.trial.now.steps + 1 → AgreeAt c.args.trial.now.layout.now c.args.trial.now.interp.now c.args.trial.now.line.now.arity c.args.trial.now.copies.now k) (SubjectTells c.args.trial.now.layout.now c.args.trial.now.interp.now c.args.trial.now.copies.now c.args.trial.now.steps c.args.trial.now.line.now.what) c.subject_fails.result c.in_ok-agree.ensures.wide (c.in_ok-agree.ensures.value.0 c.if-not-agree.false) c.subject_fails.ensures.wide
