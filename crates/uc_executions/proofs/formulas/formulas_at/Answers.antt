use Rattle.std.proofs.Common.{ap, ◌∙◌, sym, subst, rules}
use Rattle.std.specs.Prelude.{Err, Bool}
use Rattle.uc_operators.specs.Overflows.{first_wide, TellsWide}
use Rattle.uc_executions.specs.Asked.{ask_each}
use Rattle.uc_executions.specs.Formulas.{scope_seen, formula_asked}
use Rattle.uc_executions.proofs.Questions.{ask_begin, ask_end, ask_end_met, ask_told, ask_more, ask_no, ask_no_met}
use Rattle.uc_executions.proofs.formulas.formulas_at.Goals as goal

pub loop-decl-init : goal.loop-decl-init
loop-decl-init c = ask_begin (formula_asked c.args.layout.now c.args.kind (scope_seen c.args.seen.now c.args.here.now.path)) c.as_slice-decl-items.result.now

pub returns-in_err-holds-clause-wide : goal.returns-in_err-holds-clause-wide
returns-in_err-holds-clause-wide c =
    let told = subst (λ a. TellsWide {A = Bool} (first_wide a.met) (Err c.in_err-holds.field-0.0)) (ap (ask_each (formula_asked c.args.layout.now c.args.kind (scope_seen c.args.seen.now c.args.here.now.path))) c.as_slice-decl-items.ensures) (ask_told (formula_asked c.args.layout.now c.args.kind (scope_seen c.args.seen.now c.args.here.now.path)) c.as_slice-decl-items.result.now c.loop-decl.decl-index c.loop-decl.invariant c.decl-item.result c.decl-item.result c.loop-decl-test.true c.decl-item.is Bool Bool c.in_err-holds.field-0.0 c.in_err-holds.ensures.wide) in
    search (rules, told)

pub returns-then-not-holds-clause-value : goal.returns-then-not-holds-clause-value
returns-then-not-holds-clause-value c = ask_no (formula_asked c.args.layout.now c.args.kind (scope_seen c.args.seen.now c.args.here.now.path)) c.as_slice-decl-items.result.now c.loop-decl.decl-index c.loop-decl.invariant c.decl-item.result c.decl-item.result c.loop-decl-test.true c.decl-item.is c.in_ok-holds.holds c.in_ok-holds.ensures.value c.in_ok-holds.ensures.wide c.if-not-holds.true ∙ ap (λ a. a.holds) (ap (ask_each (formula_asked c.args.layout.now c.args.kind (scope_seen c.args.seen.now c.args.here.now.path))) c.as_slice-decl-items.ensures)

pub returns-then-not-holds-clause-wide : goal.returns-then-not-holds-clause-wide
returns-then-not-holds-clause-wide c = ap (λ a. first_wide a.met) (sym (ap (ask_each (formula_asked c.args.layout.now c.args.kind (scope_seen c.args.seen.now c.args.here.now.path))) c.as_slice-decl-items.ensures)) ∙ ask_no_met (formula_asked c.args.layout.now c.args.kind (scope_seen c.args.seen.now c.args.here.now.path)) c.as_slice-decl-items.result.now c.loop-decl.decl-index c.loop-decl.invariant c.decl-item.result c.decl-item.result c.loop-decl-test.true c.decl-item.is c.in_ok-holds.holds c.in_ok-holds.ensures.value c.in_ok-holds.ensures.wide c.if-not-holds.true

pub loop-decl-preserved : goal.loop-decl-preserved
loop-decl-preserved c = ask_more (formula_asked c.args.layout.now c.args.kind (scope_seen c.args.seen.now c.args.here.now.path)) c.as_slice-decl-items.result.now c.loop-decl.decl-index c.loop-decl.invariant c.decl-item.result c.decl-item.result c.loop-decl-test.true c.decl-item.is c.in_ok-holds.holds c.in_ok-holds.ensures.value c.in_ok-holds.ensures.wide c.if-not-holds.false

pub returns-clause-value : goal.returns-clause-value
returns-clause-value c = ask_end (formula_asked c.args.layout.now c.args.kind (scope_seen c.args.seen.now c.args.here.now.path)) c.as_slice-decl-items.result.now c.loop-decl.decl-index c.loop-decl.invariant c.loop-decl-test.false ∙ ap (λ a. a.holds) (ap (ask_each (formula_asked c.args.layout.now c.args.kind (scope_seen c.args.seen.now c.args.here.now.path))) c.as_slice-decl-items.ensures)

pub returns-clause-wide : goal.returns-clause-wide
returns-clause-wide c = ap (λ a. first_wide a.met) (sym (ap (ask_each (formula_asked c.args.layout.now c.args.kind (scope_seen c.args.seen.now c.args.here.now.path))) c.as_slice-decl-items.ensures)) ∙ ask_end_met (formula_asked c.args.layout.now c.args.kind (scope_seen c.args.seen.now c.args.here.now.path)) c.as_slice-decl-items.result.now c.loop-decl.decl-index c.loop-decl.invariant c.loop-decl-test.false
