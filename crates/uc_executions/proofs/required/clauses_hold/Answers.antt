use Rattle.std.proofs.Common.{rules}
use Rattle.std.specs.Prelude.{Bool}
use Rattle.uc_meaning.specs.Code.{requires_in}
use Rattle.uc_executions.specs.Formulas.{truth_if}
use Rattle.uc_executions.proofs.Questions.{ask_begin, ask_end, ask_end_met, ask_told, ask_more, ask_no, ask_no_met}
use Rattle.uc_executions.proofs.required.clauses_hold.Goals as goal

pub loop-clause-init : goal.loop-clause-init
loop-clause-init c = ask_begin (λ c'. truth_if c.args.layout.now c.args.scope.now (requires_in c')) c.args.clauses.now

pub returns-in_err-holds-clause-wide : goal.returns-in_err-holds-clause-wide
returns-in_err-holds-clause-wide c =
    let told = ask_told (λ c'. truth_if c.args.layout.now c.args.scope.now (requires_in c')) c.args.clauses.now c.loop-clause.clause-index c.loop-clause.invariant c.clause-item.result c.clause-item.result c.loop-clause-test.true c.clause-item.is Bool Bool c.in_err-holds.field-0.0 c.in_err-holds.ensures.wide in
    search (rules, told)

pub returns-then-not-holds-clause-value : goal.returns-then-not-holds-clause-value
returns-then-not-holds-clause-value c = ask_no (λ c'. truth_if c.args.layout.now c.args.scope.now (requires_in c')) c.args.clauses.now c.loop-clause.clause-index c.loop-clause.invariant c.clause-item.result c.clause-item.result c.loop-clause-test.true c.clause-item.is c.in_ok-holds.holds c.in_ok-holds.ensures.value c.in_ok-holds.ensures.wide c.if-not-holds.true

pub returns-then-not-holds-clause-wide : goal.returns-then-not-holds-clause-wide
returns-then-not-holds-clause-wide c = ask_no_met (λ c'. truth_if c.args.layout.now c.args.scope.now (requires_in c')) c.args.clauses.now c.loop-clause.clause-index c.loop-clause.invariant c.clause-item.result c.clause-item.result c.loop-clause-test.true c.clause-item.is c.in_ok-holds.holds c.in_ok-holds.ensures.value c.in_ok-holds.ensures.wide c.if-not-holds.true

pub loop-clause-preserved : goal.loop-clause-preserved
loop-clause-preserved c = ask_more (λ c'. truth_if c.args.layout.now c.args.scope.now (requires_in c')) c.args.clauses.now c.loop-clause.clause-index c.loop-clause.invariant c.clause-item.result c.clause-item.result c.loop-clause-test.true c.clause-item.is c.in_ok-holds.holds c.in_ok-holds.ensures.value c.in_ok-holds.ensures.wide c.if-not-holds.false

pub returns-clause-value : goal.returns-clause-value
returns-clause-value c = ask_end (λ c'. truth_if c.args.layout.now c.args.scope.now (requires_in c')) c.args.clauses.now c.loop-clause.clause-index c.loop-clause.invariant c.loop-clause-test.false

pub returns-clause-wide : goal.returns-clause-wide
returns-clause-wide c = ask_end_met (λ c'. truth_if c.args.layout.now c.args.scope.now (requires_in c')) c.args.clauses.now c.loop-clause.clause-index c.loop-clause.invariant c.loop-clause-test.false
