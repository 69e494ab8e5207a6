use Rattle.std.proofs.Common.{arith, ◌∙◌, ◌≡◌, subst, List, length}
use Rattle.std.proofs.lemmas.Grind.{common_steps}
use Rattle.uc_circuit.specs.declared.literal.Lit.{Lit}
use Rattle.uc_learner.specs.Learned.{LearnedBy}
use Rattle.uc_learner.proofs.Answering.{new_learnt, learnt_fits, none_recorded, goes_on, ends_empty}
use Rattle.uc_learner.proofs.state.State.conclude.Goals as goal

pub record-requires-clause-learnt : goal.record-requires-clause-learnt
record-requires-clause-learnt g c =
    learnt_fits c.args.self.now (g.M.Meter.opened c.args.meter.now) c.args.log.now c.in_ok-kept.field-0.kept.items _ _ _ _
    c.requires.holds c.in_ok-kept.ensures (c.in_ok-clause.ensures ∙ c.as_slice.ensures.value) c.from_vec.ensures

pub record-requires-clause-new : goal.record-requires-clause-new
record-requires-clause-new g c =
    new_learnt c.args.self.now c.args.terms.now (g.M.Meter.opened c.args.meter.now) (g.M.Meter.here c.args.meter.now) c.args.log.now c.in_ok-kept.field-0.kept.items _ _ _ _
    c.requires.at_conflict.ready c.requires.none_empty c.requires.holds c.requires.recorded c.in_ok-kept.ensures
    (c.in_ok-clause.ensures ∙ c.as_slice.ensures.value)

pub returns-in_err-kept-clause-records : goal.returns-in_err-kept-clause-records
returns-in_err-kept-clause-records g c = none_recorded g.M.Meter.opened g.M.Meter.here g.M.Meter.total c.args.terms.now c.args.meter.now c.args.log.now c.requires.recorded

pub returns-in_err-clause-clause-records : goal.returns-in_err-clause-clause-records
returns-in_err-clause-clause-records g c = none_recorded g.M.Meter.opened g.M.Meter.here g.M.Meter.total c.args.terms.now c.args.meter.now c.args.log.now c.requires.recorded

pub returns-in_err-record-clause-records : goal.returns-in_err-record-clause-records
returns-in_err-record-clause-records g c = c.in_err-record.ensures.records

pub returns-then-is_empty-clause-records : goal.returns-then-is_empty-clause-records
returns-then-is_empty-clause-records g c = c.in_ok-record.ensures.records

pub returns-then-is_empty-clause-ok : goal.returns-then-is_empty-clause-ok
returns-then-is_empty-clause-ok g c =
    let none : length c.in_ok-kept.field-0.kept.items ≡ 0 = grind (arith, common_steps) in
    ends_empty _ c.args.self.now _ _ c.args.log.now c.record.new.log c.in_ok-kept.field-0.kept.items c.in_ok-clause.clause _ none
    (c.in_ok-clause.ensures ∙ c.as_slice.ensures.value) c.in_ok-record.ensures.ok

pub returns-in_err-learn-clause-records : goal.returns-in_err-learn-clause-records
returns-in_err-learn-clause-records g c = c.in_ok-record.ensures.records

pub returns-clause-records : goal.returns-clause-records
returns-clause-records g c = c.in_ok-record.ensures.records

pub returns-clause-ok : goal.returns-clause-ok
returns-clause-ok g c =
    goes_on c.args.self.now c.learn.new.self (g.M.Meter.opened c.args.meter.now) c.args.log.now c.record.new.log c.in_ok-kept.field-0.kept.items c.in_ok-clause.clause _ _ _
    c.requires.holds c.requires.none_empty c.in_ok-kept.ensures (grind (arith, common_steps))
    (c.in_ok-clause.ensures ∙ c.as_slice.ensures.value) c.in_ok-record.ensures.ok
    (subst (λ (k : List Lit). LearnedBy c.args.self.now k c.learn.new.self) c.as_slice-2.ensures.value c.in_ok-learn.ensures.learned)
    c.in_ok-learn.ensures.waiting
