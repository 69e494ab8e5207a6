use Rattle.std.proofs.Common.{rules}
use Rattle.std.specs.Prelude.{Bool}
use Rattle.uc_meaning.specs.Cells.{IsInterpretation}
use Rattle.uc_meaning.specs.Runs.{IsAdmitted}
use Rattle.uc_executions.specs.Formulas.{axioms_asked}
use Rattle.uc_checks.specs.Tellings.{Of, Where}
use Rattle.uc_checks.specs.Refutations.{LineTells}
use Rattle.uc_checks.proofs.Told.{refused, none_decided, if_same, told_here, told_stop, told_next}
use Rattle.uc_checks.proofs.accepting.accepts_trace.Goals as goal

pub returns-in_err-admitted-clause-wide : goal.returns-in_err-admitted-clause-wide
returns-in_err-admitted-clause-wide c =
    let told = told_here (Where (IsInterpretation c.args.layout.now c.args.trace.now.interp) (Of (axioms_asked c.args.layout.now c.args.trace.now.interp).met)) (IsAdmitted c.args.layout.now c.args.trace.now.interp) (LineTells c.args.layout.now c.args.line.now c.args.line.now.at c.args.trace.now.interp c.args.trace.now.copies) Bool Bool c.in_err-admitted.field-0.0 c.in_err-admitted.ensures.wide in
    search (rules, told)

pub returns-then-not-admitted-clause-value : goal.returns-then-not-admitted-clause-value
returns-then-not-admitted-clause-value c = none_decided (λ r. refused c.in_ok-admitted.admitted c.in_ok-admitted.ensures.value c.if-not-admitted.true r.admitted)

pub returns-then-not-admitted-clause-wide : goal.returns-then-not-admitted-clause-wide
returns-then-not-admitted-clause-wide c =
    told_stop (Where (IsInterpretation c.args.layout.now c.args.trace.now.interp) (Of (axioms_asked c.args.layout.now c.args.trace.now.interp).met)) (IsAdmitted c.args.layout.now c.args.trace.now.interp) (LineTells c.args.layout.now c.args.line.now c.args.line.now.at c.args.trace.now.interp c.args.trace.now.copies)
    c.in_ok-admitted.ensures.wide (refused c.in_ok-admitted.admitted c.in_ok-admitted.ensures.value c.if-not-admitted.true)

pub returns-clause-value : goal.returns-clause-value
returns-clause-value c =
    if_same c.fails.result (λ h. record { admitted = c.in_ok-admitted.ensures.value.0 c.if-not-admitted.false; fails = h }) (λ r. r.fails) c.fails.ensures.value

pub returns-clause-wide : goal.returns-clause-wide
returns-clause-wide c =
    told_next (Where (IsInterpretation c.args.layout.now c.args.trace.now.interp) (Of (axioms_asked c.args.layout.now c.args.trace.now.interp).met)) (IsAdmitted c.args.layout.now c.args.trace.now.interp) (LineTells c.args.layout.now c.args.line.now c.args.line.now.at c.args.trace.now.interp c.args.trace.now.copies)
    c.fails.result c.in_ok-admitted.ensures.wide (c.in_ok-admitted.ensures.value.0 c.if-not-admitted.false) c.fails.ensures.wide
