use Rattle.std.proofs.Common.{rules}
use Rattle.std.specs.Prelude.{Bool}
use Rattle.uc_meaning.specs.Runs.{states_at}
use Rattle.uc_executions.specs.Formulas.{hyperinvariants_asked}
use Rattle.uc_checks.specs.Tellings.{Of}
use Rattle.uc_checks.specs.Refutations.{HyperinvariantsAt}
use Rattle.uc_checks.proofs.Told.{refused, none_decided, all_decided, reach_begin, reach_end, reach_end_told, reach_more, reach_no, reach_no_told, reach_told}
use Rattle.uc_checks.proofs.positions.hyperinvariants_agree.Goals as goal

pub loop-position-init : goal.loop-position-init
loop-position-init c = reach_begin (λ k. Of (hyperinvariants_asked c.args.layout.now c.args.interp.now c.args.arity (states_at k c.args.copies.now)).met) (HyperinvariantsAt c.args.layout.now c.args.interp.now c.args.arity c.args.copies.now) c.args.count

pub returns-in_err-hold-clause-wide : goal.returns-in_err-hold-clause-wide
returns-in_err-hold-clause-wide c =
    let told = reach_told (λ k. Of (hyperinvariants_asked c.args.layout.now c.args.interp.now c.args.arity (states_at k c.args.copies.now)).met) (HyperinvariantsAt c.args.layout.now c.args.interp.now c.args.arity c.args.copies.now) c.args.count c.loop-position.position c.loop-position.invariant c.loop-position-test.true Bool Bool c.in_err-hold.field-0.0 c.in_err-hold.ensures.wide in
    search (rules, told)

pub returns-then-not-hold-clause-value : goal.returns-then-not-hold-clause-value
returns-then-not-hold-clause-value c = none_decided (reach_no (λ k. Of (hyperinvariants_asked c.args.layout.now c.args.interp.now c.args.arity (states_at k c.args.copies.now)).met) (HyperinvariantsAt c.args.layout.now c.args.interp.now c.args.arity c.args.copies.now) c.args.count c.loop-position.position c.loop-position.invariant c.loop-position-test.true (refused c.in_ok-hold.hold c.in_ok-hold.ensures.value c.if-not-hold.true))

pub returns-then-not-hold-clause-wide : goal.returns-then-not-hold-clause-wide
returns-then-not-hold-clause-wide c = reach_no_told (λ k. Of (hyperinvariants_asked c.args.layout.now c.args.interp.now c.args.arity (states_at k c.args.copies.now)).met) (HyperinvariantsAt c.args.layout.now c.args.interp.now c.args.arity c.args.copies.now) c.args.count c.loop-position.position c.loop-position.invariant c.loop-position-test.true c.in_ok-hold.ensures.wide (refused c.in_ok-hold.hold c.in_ok-hold.ensures.value c.if-not-hold.true)

pub loop-position-preserved : goal.loop-position-preserved
loop-position-preserved c = reach_more (λ k. Of (hyperinvariants_asked c.args.layout.now c.args.interp.now c.args.arity (states_at k c.args.copies.now)).met) (HyperinvariantsAt c.args.layout.now c.args.interp.now c.args.arity c.args.copies.now) c.args.count c.loop-position.position c.loop-position.invariant c.loop-position-test.true c.in_ok-hold.ensures.wide (c.in_ok-hold.ensures.value.0 c.if-not-hold.false)

pub returns-clause-value : goal.returns-clause-value
returns-clause-value c = all_decided (reach_end (λ k. Of (hyperinvariants_asked c.args.layout.now c.args.interp.now c.args.arity (states_at k c.args.copies.now)).met) (HyperinvariantsAt c.args.layout.now c.args.interp.now c.args.arity c.args.copies.now) c.args.count c.loop-position.position c.loop-position.invariant c.loop-position-test.false)

pub returns-clause-wide : goal.returns-clause-wide
returns-clause-wide c = reach_end_told (λ k. Of (hyperinvariants_asked c.args.layout.now c.args.interp.now c.args.arity (states_at k c.args.copies.now)).met) (HyperinvariantsAt c.args.layout.now c.args.interp.now c.args.arity c.args.copies.now) c.args.count c.loop-position.position c.loop-position.invariant c.loop-position-test.false
