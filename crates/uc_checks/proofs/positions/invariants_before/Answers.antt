use Rattle.std.proofs.Common.{◌≡◌, None, subst, rules}
use Rattle.std.specs.Prelude.{Err, Bool}
use Rattle.std.specs.Bool.{Decides}
use Rattle.std.specs.List.{All}
use Rattle.uc_meaning.specs.Cells.{instances}
use Rattle.uc_meaning.specs.Runs.{position_at}
use Rattle.uc_meaning.specs.Lines.{InvariantsIn}
use Rattle.uc_operators.specs.Overflows.{first_wide, TellsWide}
use Rattle.uc_executions.specs.Formulas.{invariants_asked}
use Rattle.uc_checks.specs.Tellings.{Of}
use Rattle.uc_checks.specs.Refutations.{InvariantsAt}
use Rattle.uc_checks.proofs.Told.{refused, none_decided, all_decided, of_met, reach_begin, reach_end, reach_end_told, reach_more, reach_no, reach_no_told, reach_told}
use Rattle.uc_checks.proofs.positions.invariants_before.Goals as goal

pub loop-position-init : goal.loop-position-init
loop-position-init c = reach_begin (λ k. Of (invariants_asked c.args.layout.now c.args.interp.now (position_at k c.args.copy.now).0).met) (InvariantsAt c.args.layout.now c.args.interp.now c.args.copy.now) c.args.count

pub returns-in_err-hold-clause-wide : goal.returns-in_err-hold-clause-wide
returns-in_err-hold-clause-wide c =
    let here = subst (λ s. TellsWide {A = Bool} (first_wide (invariants_asked c.args.layout.now c.args.interp.now s).met) (Err c.in_err-hold.field-0.0)) (c.state_at-state.ensures c.no_state-nothing.ensures) c.in_err-hold.ensures.wide in
    let told = reach_told (λ k. Of (invariants_asked c.args.layout.now c.args.interp.now (position_at k c.args.copy.now).0).met) (InvariantsAt c.args.layout.now c.args.interp.now c.args.copy.now) c.args.count c.loop-position.position c.loop-position.invariant c.loop-position-test.true Bool Bool c.in_err-hold.field-0.0 (of_met {A = Bool} (invariants_asked c.args.layout.now c.args.interp.now (position_at c.loop-position.position c.args.copy.now).0).met (Err c.in_err-hold.field-0.0) here) in
    search (rules, told)

pub returns-then-not-hold-clause-value : goal.returns-then-not-hold-clause-value
returns-then-not-hold-clause-value c = none_decided (reach_no (λ k. Of (invariants_asked c.args.layout.now c.args.interp.now (position_at k c.args.copy.now).0).met) (InvariantsAt c.args.layout.now c.args.interp.now c.args.copy.now) c.args.count c.loop-position.position c.loop-position.invariant c.loop-position-test.true (refused c.in_ok-hold.hold (subst (λ s. Decides c.in_ok-hold.hold (All (InvariantsIn c.args.layout.now c.args.interp.now s) (instances c.args.layout.now))) (c.state_at-state.ensures c.no_state-nothing.ensures) c.in_ok-hold.ensures.value) c.if-not-hold.true))

pub returns-then-not-hold-clause-wide : goal.returns-then-not-hold-clause-wide
returns-then-not-hold-clause-wide c = reach_no_told (λ k. Of (invariants_asked c.args.layout.now c.args.interp.now (position_at k c.args.copy.now).0).met) (InvariantsAt c.args.layout.now c.args.interp.now c.args.copy.now) c.args.count c.loop-position.position c.loop-position.invariant c.loop-position-test.true (subst (λ s. first_wide (invariants_asked c.args.layout.now c.args.interp.now s).met ≡ None) (c.state_at-state.ensures c.no_state-nothing.ensures) c.in_ok-hold.ensures.wide) (refused c.in_ok-hold.hold (subst (λ s. Decides c.in_ok-hold.hold (All (InvariantsIn c.args.layout.now c.args.interp.now s) (instances c.args.layout.now))) (c.state_at-state.ensures c.no_state-nothing.ensures) c.in_ok-hold.ensures.value) c.if-not-hold.true)

pub loop-position-preserved : goal.loop-position-preserved
loop-position-preserved c =
    let decided = (subst (λ s. Decides c.in_ok-hold.hold (All (InvariantsIn c.args.layout.now c.args.interp.now s) (instances c.args.layout.now))) (c.state_at-state.ensures c.no_state-nothing.ensures) c.in_ok-hold.ensures.value) in
    reach_more (λ k. Of (invariants_asked c.args.layout.now c.args.interp.now (position_at k c.args.copy.now).0).met) (InvariantsAt c.args.layout.now c.args.interp.now c.args.copy.now) c.args.count c.loop-position.position c.loop-position.invariant c.loop-position-test.true (subst (λ s. first_wide (invariants_asked c.args.layout.now c.args.interp.now s).met ≡ None) (c.state_at-state.ensures c.no_state-nothing.ensures) c.in_ok-hold.ensures.wide) (decided.0 c.if-not-hold.false)

pub returns-clause-value : goal.returns-clause-value
returns-clause-value c = all_decided (reach_end (λ k. Of (invariants_asked c.args.layout.now c.args.interp.now (position_at k c.args.copy.now).0).met) (InvariantsAt c.args.layout.now c.args.interp.now c.args.copy.now) c.args.count c.loop-position.position c.loop-position.invariant c.loop-position-test.false)

pub returns-clause-wide : goal.returns-clause-wide
returns-clause-wide c = reach_end_told (λ k. Of (invariants_asked c.args.layout.now c.args.interp.now (position_at k c.args.copy.now).0).met) (InvariantsAt c.args.layout.now c.args.interp.now c.args.copy.now) c.args.count c.loop-position.position c.loop-position.invariant c.loop-position-test.false
