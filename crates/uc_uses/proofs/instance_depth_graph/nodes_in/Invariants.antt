use Rattle.uc_uses.proofs.Nodes.{NodesUpTo}
use Rattle.uc_uses.proofs.instance_depth_graph.nodes_in.Given as goal

abbrev pub invariant-loop-declaration : goal.invariant-loop-declaration
invariant-loop-declaration l = NodesUpTo l.design l.declarations l.declaration-index l.nodes
