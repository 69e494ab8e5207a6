use Rattle.std.proofs.Common.{sym, subst}
use Rattle.std.specs.Prelude.{IfOk}
use Rattle.std.specs.Bool.{Decides}
use Rattle.uc_meaning.specs.Lines.{FailsIn}
use Rattle.uc_checks.specs.Tellings.{Tells}
use Rattle.uc_checks.specs.Refutations.{LineTells}
use Rattle.uc_checks.proofs.accepting.fails.Goals as goal

pub returns-in-Exactly-clause-value : goal.returns-in-Exactly-clause-value
returns-in-Exactly-clause-value c =
    subst (λ cs. IfOk c.fails_after.result (λ b. Decides b (FailsIn c.args.layout.now c.args.line.now c.args.line.now.at c.args.trace.now.interp cs))) c.as_slice-copies.ensures
    (subst (λ a. IfOk c.fails_after.result (λ b. Decides b (FailsIn c.args.layout.now c.args.line.now a c.args.trace.now.interp c.as_slice-copies.result.now))) (sym c.in-Exactly.is) c.fails_after.ensures.value)

pub returns-in-Exactly-clause-wide : goal.returns-in-Exactly-clause-wide
returns-in-Exactly-clause-wide c =
    subst (λ cs. Tells (LineTells c.args.layout.now c.args.line.now c.args.line.now.at c.args.trace.now.interp cs) c.fails_after.result) c.as_slice-copies.ensures
    (subst (λ a. Tells (LineTells c.args.layout.now c.args.line.now a c.args.trace.now.interp c.as_slice-copies.result.now) c.fails_after.result) (sym c.in-Exactly.is) c.fails_after.ensures.wide)

pub returns-in-Base-clause-value : goal.returns-in-Base-clause-value
returns-in-Base-clause-value c =
    subst (λ cs. IfOk c.fails_after-in-Base.result (λ b. Decides b (FailsIn c.args.layout.now c.args.line.now c.args.line.now.at c.args.trace.now.interp cs))) c.as_slice-copies.ensures
    (subst (λ a. IfOk c.fails_after-in-Base.result (λ b. Decides b (FailsIn c.args.layout.now c.args.line.now a c.args.trace.now.interp c.as_slice-copies.result.now))) (sym c.in-Base.is) c.fails_after-in-Base.ensures.value)

pub returns-in-Base-clause-wide : goal.returns-in-Base-clause-wide
returns-in-Base-clause-wide c =
    subst (λ cs. Tells (LineTells c.args.layout.now c.args.line.now c.args.line.now.at c.args.trace.now.interp cs) c.fails_after-in-Base.result) c.as_slice-copies.ensures
    (subst (λ a. Tells (LineTells c.args.layout.now c.args.line.now a c.args.trace.now.interp c.as_slice-copies.result.now) c.fails_after-in-Base.result) (sym c.in-Base.is) c.fails_after-in-Base.ensures.wide)

pub returns-in-Step-clause-value : goal.returns-in-Step-clause-value
returns-in-Step-clause-value c =
    subst (λ cs. IfOk c.fails_induction.result (λ b. Decides b (FailsIn c.args.layout.now c.args.line.now c.args.line.now.at c.args.trace.now.interp cs))) c.as_slice-copies.ensures
    (subst (λ a. IfOk c.fails_induction.result (λ b. Decides b (FailsIn c.args.layout.now c.args.line.now a c.args.trace.now.interp c.as_slice-copies.result.now))) (sym c.in-Step.is) c.fails_induction.ensures.value)

pub returns-in-Step-clause-wide : goal.returns-in-Step-clause-wide
returns-in-Step-clause-wide c =
    subst (λ cs. Tells (LineTells c.args.layout.now c.args.line.now c.args.line.now.at c.args.trace.now.interp cs) c.fails_induction.result) c.as_slice-copies.ensures
    (subst (λ a. Tells (LineTells c.args.layout.now c.args.line.now a c.args.trace.now.interp c.as_slice-copies.result.now) c.fails_induction.result) (sym c.in-Step.is) c.fails_induction.ensures.wide)

pub returns-in-Body-clause-value : goal.returns-in-Body-clause-value
returns-in-Body-clause-value c =
    subst (λ cs. IfOk c.fails_body.result (λ b. Decides b (FailsIn c.args.layout.now c.args.line.now c.args.line.now.at c.args.trace.now.interp cs))) c.as_slice-copies.ensures
    (subst (λ a. IfOk c.fails_body.result (λ b. Decides b (FailsIn c.args.layout.now c.args.line.now a c.args.trace.now.interp c.as_slice-copies.result.now))) (sym c.in-Body.is) c.fails_body.ensures.value)

pub returns-in-Body-clause-wide : goal.returns-in-Body-clause-wide
returns-in-Body-clause-wide c =
    subst (λ cs. Tells (LineTells c.args.layout.now c.args.line.now c.args.line.now.at c.args.trace.now.interp cs) c.fails_body.result) c.as_slice-copies.ensures
    (subst (λ a. Tells (LineTells c.args.layout.now c.args.line.now a c.args.trace.now.interp c.as_slice-copies.result.now) c.fails_body.result) (sym c.in-Body.is) c.fails_body.ensures.wide)
