use Rattle.uc_uses.proofs.Nodes.{RowsUpTo}
use Rattle.uc_uses.proofs.instance_depth_graph.instance_graph.Given as goal

abbrev pub invariant-loop-place : goal.invariant-loop-place
invariant-loop-place l = RowsUpTo l.design l.place l.graph
