use Rattle.std.proofs.Common.{arith, sym, subst, inr, false, Option}
use Rattle.uc_log.specs.Problems.{Question}
use Rattle.uc_learner.specs.Opened.{known_now}
use Rattle.uc_learner.specs.Learners.{input_flags}
use Rattle.uc_learner.specs.Answered.{HoldsFor, NoneEmpty, GoesOn}
use Rattle.uc_learner.proofs.Answering.{kept_on, went_on, settled_on}
use Rattle.uc_learner.proofs.Roaming.{holds_next}
use Rattle.uc_learner.proofs.state.State.roam.Goals as goal

pub loop-self-preserved : goal.loop-self-preserved
loop-self-preserved g c =
    let inv = c.loop-self.invariant in
    let on : GoesOn (input_flags (known_now (g.M.Meter.opened c.loop-self.meter) c.loop-self.log).circuit) c.descend.new.self c.loop-self.log (known_now (g.M.Meter.opened c.loop-self.meter) c.conclude.new.log) c.conclude.new.self c.conclude.new.log false =
    went_on _ c.descend.new.self c.conclude.new.self c.loop-self.log c.conclude.new.log _ c.in_ok-conclude.field-0 c.if-branch.false c.in_ok-conclude.ensures.ok in
    record {
      ready = c.refresh.ensures.ready;
      waiting = c.refresh.ensures.waiting;
      kept = kept_on g.M.Meter.opened g.M.Meter.here g.M.Meter.total c.args.terms.now _ _ _ _ _ _ inv.kept c.in_ok-conclude.ensures.records.kept;
      holds =
          subst (λ (k : Option Question). HoldsFor c.args.self.now.inputs.items c.refresh.new.self (known_now k c.conclude.new.log)) (sym c.in_ok-conclude.ensures.records.kept.still_open)
          (holds_next c.args.self.now.inputs.items c.conclude.new.self c.refresh.new.self (known_now (g.M.Meter.opened c.loop-self.meter) c.loop-self.log)
          (known_now (g.M.Meter.opened c.loop-self.meter) c.conclude.new.log) inv.holds.inputs c.refresh.ensures.inputs c.refresh.ensures.clauses on.0);
      within =
          λ room. omega (arith, c.loop-self-test.true, c.len-in-loop-self.ensures, inv.kept.recorded.count, c.in_ok-conclude.ensures.records.few);
      none_empty = subst NoneEmpty (sym c.refresh.ensures.clauses) on.2;
      settled = inr (settled_on c.args.self.now c.loop-self.self c.descend.new.self c.loop-self.log c.args.log.now inv.settled c.descend.ensures.decided on.5);
      other = inv.other;
    }
