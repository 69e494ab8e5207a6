use Rattle.std.proofs.Common.{◌≡◌, length, take, vec_capacity}
use Rattle.uc_rings.specs.Watched.{Linked}
use Rattle.uc_learner.proofs.state.State.watch_from.Given as goal

abbrev pub invariant-loop-number : goal.invariant-loop-number
invariant-loop-number l = record {
  watched : Linked (take l.number l.self.clauses.items) (length l.self.inputs.items) l.self.watches;
  clauses : l.self.clauses.items ≡ l.fn.self.clauses.items;
  inputs : l.self.inputs.items ≡ l.fn.self.inputs.items;
  values : l.self.values.items ≡ l.fn.self.values.items;
  trail : l.self.trail.items ≡ l.fn.self.trail.items;
  head : l.self.head ≡ l.fn.self.head;
  capacity : vec_capacity l.self.trail ≡ vec_capacity l.fn.self.trail;
}
