use Rattle.std.proofs.Common.{arith, subst}
use Rattle.uc_learner.specs.ClauseStates.{AllSettled, ConflictIs}
use Rattle.uc_learner.specs.Moves.{Onward}
use Rattle.uc_learner.proofs.Learning.{length-values}
use Rattle.uc_learner.proofs.Progress.{Stepped, conflict_none, has_room, decided_step, onward_trans, decided_once, decided_after}
use Rattle.uc_learner.proofs.Queue.{waiting_pushed}
use Rattle.uc_learner.proofs.Narrow.{none_from}
use Rattle.uc_learner.proofs.state.State.descend.Goals as goal

pub returns-in-Some : goal.returns-in-Some
returns-in-Some c = record {
  onward = onward_trans c.args.self.now c.loop-conflict.self c.propagate.new.self c.loop-conflict.invariant.onward c.propagate.ensures.onward;
  conflict = subst (ConflictIs c.propagate.new.self) c.in-Some.is c.propagate.ensures.conflict;
  complete = tt;
  decided = decided_after c.args.self.now c.loop-conflict.self c.propagate.new.self c.loop-conflict.invariant.decided c.propagate.ensures.undecided;
}

pub push-requires-clause-inside : goal.push-requires-clause-inside
push-requires-clause-inside c = omega (arith, length-values c.propagate.new.self c.propagate.ensures.onward.ready.sound, c.in-Some-decision.ensures.1.0)

pub push-requires-clause-room : goal.push-requires-clause-room
push-requires-clause-room c =
    has_room c.propagate.new.self c.in-Some-decision.step.literal c.propagate.ensures.onward.ready
    (omega (arith, length-values c.propagate.new.self c.propagate.ensures.onward.ready.sound, c.in-Some-decision.ensures.1.0)) c.in-Some-decision.ensures.1.2

pub loop-conflict-smaller : goal.loop-conflict-smaller
loop-conflict-smaller c =
    let settled : AllSettled c.propagate.new.self.clauses.items c.propagate.new.self.values.items = conflict_none c.propagate.new.self c.propagate.result c.propagate.ensures.conflict c.in_default.not-Some in
    let stepped : Stepped c.propagate.new.self c.push.new.self =
    decided_step c.propagate.new.self c.push.new.self _ c.propagate.ensures.onward.ready c.push.ensures c.in-Some-decision.ensures.0 c.in-Some-decision.ensures.1.1 c.in-Some-decision.ensures.1.0 c.in-Some-decision.ensures.1.2 settled (c.propagate.ensures.guarded (none_from c.propagate.result c.in_default.not-Some)) in
    omega (arith, stepped.unset_less, c.propagate.ensures.onward.unset_le)

pub loop-conflict-preserved : goal.loop-conflict-preserved
loop-conflict-preserved c =
    let settled : AllSettled c.propagate.new.self.clauses.items c.propagate.new.self.values.items = conflict_none c.propagate.new.self c.propagate.result c.propagate.ensures.conflict c.in_default.not-Some in
    let stepped : Stepped c.propagate.new.self c.push.new.self =
    decided_step c.propagate.new.self c.push.new.self _ c.propagate.ensures.onward.ready c.push.ensures c.in-Some-decision.ensures.0 c.in-Some-decision.ensures.1.1 c.in-Some-decision.ensures.1.0 c.in-Some-decision.ensures.1.2 settled (c.propagate.ensures.guarded (none_from c.propagate.result c.in_default.not-Some)) in
    let here : Onward c.args.self.now c.propagate.new.self = onward_trans c.args.self.now c.loop-conflict.self c.propagate.new.self c.loop-conflict.invariant.onward c.propagate.ensures.onward in
    record {
      onward = onward_trans c.args.self.now c.propagate.new.self c.push.new.self here stepped.onward;
      waiting = waiting_pushed c.propagate.new.self c.push.new.self _ (c.propagate.ensures.waiting (none_from c.propagate.result c.in_default.not-Some)) c.push.ensures c.in-Some-decision.ensures.1.2;
      decided = decided_once c.args.self.now c.propagate.new.self c.push.new.self here settled;
    }
