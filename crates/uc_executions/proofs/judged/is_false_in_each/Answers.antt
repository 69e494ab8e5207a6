use Rattle.std.proofs.Common.{ap, ◌∙◌, sym, subst, rules}
use Rattle.std.specs.Prelude.{Err, Bool}
use Rattle.uc_meaning.specs.Steps.{scope_of}
use Rattle.uc_meaning.specs.Runs.{position_at}
use Rattle.uc_operators.specs.Overflows.{first_wide, TellsWide}
use Rattle.uc_executions.specs.Judged.{falsity_asked}
use Rattle.uc_executions.proofs.Questions.{ask_begin, ask_end, ask_end_met, ask_told, ask_more, ask_no, ask_no_met}
use Rattle.uc_executions.proofs.judged.is_false_in_each.Goals as goal

pub loop-run-init : goal.loop-run-init
loop-run-init c = ask_begin (λ run. falsity_asked c.args.layout.now (scope_of c.args.interp.now c.args.path.now (position_at c.args.position run).0) c.args.formula.now) c.args.copies.now

pub returns-in_err-fails-clause-wide : goal.returns-in_err-fails-clause-wide
returns-in_err-fails-clause-wide c =
    let here = subst (λ s. TellsWide {A = Bool} (first_wide (falsity_asked c.args.layout.now (scope_of c.args.interp.now c.args.path.now s) c.args.formula.now).met) (Err c.in_err-fails.field-0.0)) (c.state_at-state.ensures c.no_state-nothing.ensures ∙ ap (λ r. (position_at c.args.position r).0) c.as_slice.ensures) c.in_err-fails.ensures.wide in
    let told = ask_told (λ run. falsity_asked c.args.layout.now (scope_of c.args.interp.now c.args.path.now (position_at c.args.position run).0) c.args.formula.now) c.args.copies.now c.loop-run.run-index c.loop-run.invariant c.run-item.result c.run-item.result c.loop-run-test.true c.run-item.is Bool Bool c.in_err-fails.field-0.0 here in
    search (rules, told)

pub returns-then-not-fails-clause-value : goal.returns-then-not-fails-clause-value
returns-then-not-fails-clause-value c = ask_no (λ run. falsity_asked c.args.layout.now (scope_of c.args.interp.now c.args.path.now (position_at c.args.position run).0) c.args.formula.now) c.args.copies.now c.loop-run.run-index c.loop-run.invariant c.run-item.result c.run-item.result c.loop-run-test.true c.run-item.is c.in_ok-fails.fails (c.in_ok-fails.ensures.value ∙ ap (λ s. (falsity_asked c.args.layout.now (scope_of c.args.interp.now c.args.path.now s) c.args.formula.now).holds) (c.state_at-state.ensures c.no_state-nothing.ensures ∙ ap (λ r. (position_at c.args.position r).0) c.as_slice.ensures)) (ap (λ s. first_wide (falsity_asked c.args.layout.now (scope_of c.args.interp.now c.args.path.now s) c.args.formula.now).met) (sym (c.state_at-state.ensures c.no_state-nothing.ensures ∙ ap (λ r. (position_at c.args.position r).0) c.as_slice.ensures)) ∙ c.in_ok-fails.ensures.wide) c.if-not-fails.true

pub returns-then-not-fails-clause-wide : goal.returns-then-not-fails-clause-wide
returns-then-not-fails-clause-wide c = ask_no_met (λ run. falsity_asked c.args.layout.now (scope_of c.args.interp.now c.args.path.now (position_at c.args.position run).0) c.args.formula.now) c.args.copies.now c.loop-run.run-index c.loop-run.invariant c.run-item.result c.run-item.result c.loop-run-test.true c.run-item.is c.in_ok-fails.fails (c.in_ok-fails.ensures.value ∙ ap (λ s. (falsity_asked c.args.layout.now (scope_of c.args.interp.now c.args.path.now s) c.args.formula.now).holds) (c.state_at-state.ensures c.no_state-nothing.ensures ∙ ap (λ r. (position_at c.args.position r).0) c.as_slice.ensures)) (ap (λ s. first_wide (falsity_asked c.args.layout.now (scope_of c.args.interp.now c.args.path.now s) c.args.formula.now).met) (sym (c.state_at-state.ensures c.no_state-nothing.ensures ∙ ap (λ r. (position_at c.args.position r).0) c.as_slice.ensures)) ∙ c.in_ok-fails.ensures.wide) c.if-not-fails.true

pub loop-run-preserved : goal.loop-run-preserved
loop-run-preserved c = ask_more (λ run. falsity_asked c.args.layout.now (scope_of c.args.interp.now c.args.path.now (position_at c.args.position run).0) c.args.formula.now) c.args.copies.now c.loop-run.run-index c.loop-run.invariant c.run-item.result c.run-item.result c.loop-run-test.true c.run-item.is c.in_ok-fails.fails (c.in_ok-fails.ensures.value ∙ ap (λ s. (falsity_asked c.args.layout.now (scope_of c.args.interp.now c.args.path.now s) c.args.formula.now).holds) (c.state_at-state.ensures c.no_state-nothing.ensures ∙ ap (λ r. (position_at c.args.position r).0) c.as_slice.ensures)) (ap (λ s. first_wide (falsity_asked c.args.layout.now (scope_of c.args.interp.now c.args.path.now s) c.args.formula.now).met) (sym (c.state_at-state.ensures c.no_state-nothing.ensures ∙ ap (λ r. (position_at c.args.position r).0) c.as_slice.ensures)) ∙ c.in_ok-fails.ensures.wide) c.if-not-fails.false

pub returns-clause-value : goal.returns-clause-value
returns-clause-value c = ask_end (λ run. falsity_asked c.args.layout.now (scope_of c.args.interp.now c.args.path.now (position_at c.args.position run).0) c.args.formula.now) c.args.copies.now c.loop-run.run-index c.loop-run.invariant c.loop-run-test.false

pub returns-clause-wide : goal.returns-clause-wide
returns-clause-wide c = ask_end_met (λ run. falsity_asked c.args.layout.now (scope_of c.args.interp.now c.args.path.now (position_at c.args.position run).0) c.args.formula.now) c.args.copies.now c.loop-run.run-index c.loop-run.invariant c.loop-run-test.false
