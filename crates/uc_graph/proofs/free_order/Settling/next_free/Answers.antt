use Rattle.std.proofs.Common.{length, sym, ap, ◌∙◌}
use Rattle.std.proofs.lemmas.List.{length-set}
use Rattle.uc_graph.specs.Order.{has}
use Rattle.uc_graph.proofs.Turns.{parks}
use Rattle.uc_graph.proofs.free_order.Settling.next_free.Goals as goal

pub turns-preserved : goal.turns-preserved
turns-preserved c = record {
  steady = parks c.args.graph.now c.turns.self.flags c.turns.self.waiting c.add.new.self c.turns.self.ready c.take_first.new.self c.in-Some.place c.in-Some-first_open.need c.turns.invariant.steady c.in-Some.ensures.0
      (sym (ap (λ ns. has ns c.in-Some-first_open.need) c.needs_of.ensures) ∙ c.in-Some-first_open.ensures.0) c.in-Some-first_open.ensures.1 c.in-Some-first_open.ensures.2 c.in_ok-add-in-Some-first_open.ensures.ok
      (ap length c.in_ok-add-in-Some-first_open.ensures.ok ∙ length-set _ _ _);
  flags = c.turns.invariant.flags;
  order = c.turns.invariant.order;
}
