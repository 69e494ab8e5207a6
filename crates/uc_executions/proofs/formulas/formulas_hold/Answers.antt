use Rattle.std.proofs.Common.{ap, ◌∙◌, sym, subst, rules}
use Rattle.std.specs.Prelude.{Err, Bool}
use Rattle.uc_operators.specs.Overflows.{first_wide, TellsWide}
use Rattle.uc_layout.specs.Instances.{instance_meant}
use Rattle.uc_executions.specs.Formulas.{scope_seen, formulas_at}
use Rattle.uc_executions.proofs.Questions.{ask_begin, ask_end, ask_end_met, ask_told, ask_more, ask_no, ask_no_met, ask_map}
use Rattle.uc_executions.proofs.formulas.formulas_hold.Goals as goal

pub loop-here-init : goal.loop-here-init
loop-here-init c = ask_begin (λ i. formulas_at c.args.layout.now c.args.kind (scope_seen c.args.seen.now) (instance_meant i)) c.args.instances.now

pub returns-in_err-holds-clause-wide : goal.returns-in_err-holds-clause-wide
returns-in_err-holds-clause-wide c =
    let told = subst (λ a. TellsWide {A = Bool} (first_wide a.met) (Err c.in_err-holds.field-0.0)) (ask_map (formulas_at c.args.layout.now c.args.kind (scope_seen c.args.seen.now)) instance_meant c.args.instances.now) (ask_told (λ i. formulas_at c.args.layout.now c.args.kind (scope_seen c.args.seen.now) (instance_meant i)) c.args.instances.now c.loop-here.here-index c.loop-here.invariant c.here-item.result c.here-item.result c.loop-here-test.true c.here-item.is Bool Bool c.in_err-holds.field-0.0 c.in_err-holds.ensures.wide) in
    search (rules, told)

pub returns-then-not-holds-clause-value : goal.returns-then-not-holds-clause-value
returns-then-not-holds-clause-value c = ask_no (λ i. formulas_at c.args.layout.now c.args.kind (scope_seen c.args.seen.now) (instance_meant i)) c.args.instances.now c.loop-here.here-index c.loop-here.invariant c.here-item.result c.here-item.result c.loop-here-test.true c.here-item.is c.in_ok-holds.holds c.in_ok-holds.ensures.value c.in_ok-holds.ensures.wide c.if-not-holds.true ∙ ap (λ a. a.holds) (ask_map (formulas_at c.args.layout.now c.args.kind (scope_seen c.args.seen.now)) instance_meant c.args.instances.now)

pub returns-then-not-holds-clause-wide : goal.returns-then-not-holds-clause-wide
returns-then-not-holds-clause-wide c = ap (λ a. first_wide a.met) (sym (ask_map (formulas_at c.args.layout.now c.args.kind (scope_seen c.args.seen.now)) instance_meant c.args.instances.now)) ∙ ask_no_met (λ i. formulas_at c.args.layout.now c.args.kind (scope_seen c.args.seen.now) (instance_meant i)) c.args.instances.now c.loop-here.here-index c.loop-here.invariant c.here-item.result c.here-item.result c.loop-here-test.true c.here-item.is c.in_ok-holds.holds c.in_ok-holds.ensures.value c.in_ok-holds.ensures.wide c.if-not-holds.true

pub loop-here-preserved : goal.loop-here-preserved
loop-here-preserved c = ask_more (λ i. formulas_at c.args.layout.now c.args.kind (scope_seen c.args.seen.now) (instance_meant i)) c.args.instances.now c.loop-here.here-index c.loop-here.invariant c.here-item.result c.here-item.result c.loop-here-test.true c.here-item.is c.in_ok-holds.holds c.in_ok-holds.ensures.value c.in_ok-holds.ensures.wide c.if-not-holds.false

pub returns-clause-value : goal.returns-clause-value
returns-clause-value c = ask_end (λ i. formulas_at c.args.layout.now c.args.kind (scope_seen c.args.seen.now) (instance_meant i)) c.args.instances.now c.loop-here.here-index c.loop-here.invariant c.loop-here-test.false ∙ ap (λ a. a.holds) (ask_map (formulas_at c.args.layout.now c.args.kind (scope_seen c.args.seen.now)) instance_meant c.args.instances.now)

pub returns-clause-wide : goal.returns-clause-wide
returns-clause-wide c = ap (λ a. first_wide a.met) (sym (ask_map (formulas_at c.args.layout.now c.args.kind (scope_seen c.args.seen.now)) instance_meant c.args.instances.now)) ∙ ask_end_met (λ i. formulas_at c.args.layout.now c.args.kind (scope_seen c.args.seen.now) (instance_meant i)) c.args.instances.now c.loop-here.here-index c.loop-here.invariant c.loop-here-test.false
