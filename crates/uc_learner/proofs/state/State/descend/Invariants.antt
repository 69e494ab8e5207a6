use Rattle.std.proofs.Common.{◌⊎◌}
use Rattle.uc_learner.specs.Moves.{Onward, NoDecision, SettledOnce, unset_count}
use Rattle.uc_learner.specs.Propagated.{Waiting}
use Rattle.uc_learner.proofs.state.State.descend.Given as goal

abbrev pub invariant-loop-conflict : goal.invariant-loop-conflict
invariant-loop-conflict l = record {
  onward : Onward l.initial.self l.self;
  waiting : Waiting l.self;
  decided : SettledOnce l.initial.self.clauses.items ⊎ (NoDecision l.initial.self → NoDecision l.self);
}

abbrev pub decreases-loop-conflict : goal.decreases-loop-conflict
decreases-loop-conflict l = unset_count l.self.values.items
