use Rattle.std.proofs.Common.{◌+◌, drop}
use Rattle.uc_graph.specs.NeededFirstSteady.{Steady}
use Rattle.uc_graph.proofs.Counts.{fewer_still}
use Rattle.uc_graph.proofs.NeededFirstSteps.{turned}
use Rattle.uc_graph.proofs.needed_order.next_round.Goals as goal

pub loop-node-preserved : goal.loop-node-preserved
loop-node-preserved c = record {
  sized = c.in_ok-take_turn.ensures.sized;
  steady = λ s.
      c.in_ok-take_turn.ensures.steady (drop (c.loop-node.node-index + 1) c.args.ready.now)
      (turned (Steady c.args.graph.now c.loop-node.settling.flags c.loop-node.settling.passed c.loop-node.settling.parked c.loop-node.settling.order) c.args.ready.now c.loop-node.woken c.loop-node.node-index _ c.loop-node-test.true
      (c.loop-node.invariant.steady s));
  fewer = fewer_still _ _ _ _ _ _ c.loop-node.invariant.fewer c.in_ok-take_turn.ensures.fewer;
}
