use Rattle.std.proofs.Common.{◌≡◌, ◌-◌, ◌≤◌, length}
use Rattle.uc_learner.specs.Moves.{Ready}
use Rattle.uc_learner.specs.Propagated.{Waiting}
use Rattle.uc_learner.specs.Opened.{known_now}
use Rattle.uc_learner.specs.Recorded.{KeepsRecord}
use Rattle.uc_learner.specs.Answered.{HoldsFor, NoneEmpty}
use Rattle.uc_learner.specs.Roamed.{SettledSince}
use Rattle.uc_learner.proofs.state.State.roam.Given as goal

abbrev pub invariant-loop-self : goal.invariant-loop-self
invariant-loop-self g l = record {
  ready : Ready l.self;
  waiting : Waiting l.self;
  kept : KeepsRecord g.M.Meter.opened g.M.Meter.here g.M.Meter.total l.terms l.fn.meter l.fn.log l.meter l.log;
  holds : HoldsFor l.fn.self.inputs.items l.self (known_now (g.M.Meter.opened l.meter) l.log);
  within : g.M.Meter.here l.fn.meter ≤ l.limit → g.M.Meter.here l.meter ≤ l.limit;
  none_empty : NoneEmpty l.self.clauses.items;
  settled : SettledSince l.fn.self l.fn.log l.self l.log;
  other : l.other.items ≡ l.fn.self.inputs.items;
}

abbrev pub decreases-loop-self : goal.decreases-loop-self
decreases-loop-self g l = l.limit - length l.log
