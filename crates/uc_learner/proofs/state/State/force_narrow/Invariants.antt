use Rattle.std.proofs.Common.{◌≡◌, take}
use Rattle.uc_learner.specs.Propagated.{Gone, AreTrue}
use Rattle.uc_learner.proofs.state.State.force_narrow.Given as goal

abbrev pub invariant-loop-place : goal.invariant-loop-place
invariant-loop-place l = record {
  gone : Gone l.fn.self l.self;
  watches : l.self.watches ≡ l.fn.self.watches;
  trues : AreTrue l.self (take l.place l.self.watches.narrow.items);
}
