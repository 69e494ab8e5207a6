use Rattle.std.proofs.Common.{◌≡◌, ◌+◌, ◌^◌, ◌≤◌, ◌⊎◌, length}
use Rattle.uc_learner.specs.Moves.{Ready, NoDecision, SettledOnce, left_of}
use Rattle.uc_learner.specs.Propagated.{Waiting}
use Rattle.uc_learner.specs.Opened.{known_now}
use Rattle.uc_learner.specs.Recorded.{KeepsRecord}
use Rattle.uc_learner.specs.Answered.{Holds, NoneEmpty, inputs_count}
use Rattle.uc_learner.proofs.state.State.next.Given as goal

abbrev pub invariant-loop-conflict : goal.invariant-loop-conflict
invariant-loop-conflict g l = record {
  ready : Ready l.self;
  waiting : Waiting l.self;
  inputs : l.self.inputs.items ≡ l.fn.self.inputs.items;
  kept : KeepsRecord g.M.Meter.opened g.M.Meter.here g.M.Meter.total l.terms l.fn.meter l.fn.log l.meter l.log;
  holds : Holds l.self (known_now (g.M.Meter.opened l.meter) l.log);
  within : g.M.Meter.here l.fn.meter ≤ l.budget → g.M.Meter.here l.meter ≤ l.budget;
  none_empty : NoneEmpty l.self.clauses.items;
  count : length l.fn.log + 2 ^ inputs_count l.fn.self.inputs.items ≤ l.budget → length l.log + left_of l.self ≤ l.budget;
  settled : ((length l.log ≡ length l.fn.log) × NoDecision l.self × (l.self.clauses.items ≡ l.fn.self.clauses.items)) ⊎ SettledOnce l.fn.self.clauses.items;
}

abbrev pub decreases-loop-conflict : goal.decreases-loop-conflict
decreases-loop-conflict g l = left_of l.self
