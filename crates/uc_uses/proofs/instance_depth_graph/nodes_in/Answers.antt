use Rattle.uc_uses.proofs.Nodes.{nodes_begin, nodes_more}
use Rattle.uc_uses.proofs.instance_depth_graph.nodes_in.Goals as goal

pub loop-declaration-init : goal.loop-declaration-init
loop-declaration-init c = nodes_begin _ _ _ c.new-nodes.ensures

pub loop-declaration-preserved : goal.loop-declaration-preserved
loop-declaration-preserved c =
    nodes_more _ _ _ _ _ c.declaration-item.result _ c.loop-declaration.invariant c.loop-declaration-test.true c.declaration-item.is c.in_ok-add_node.ensures
