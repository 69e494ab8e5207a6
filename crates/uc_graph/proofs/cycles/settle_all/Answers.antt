use Rattle.uc_graph.proofs.cycles.settle_all.Goals as goal

pub loop-node-preserved : goal.loop-node-preserved
loop-node-preserved c = λ s. (c.in_ok-settle.ensures (c.loop-node.invariant s)).settles
