use Rattle.uc_uses.proofs.Nodes.{node_added}
use Rattle.uc_uses.proofs.instance_depth_graph.add_node.Goals as goal

pub returns-in_ok-push-in-Some : goal.returns-in_ok-push-in-Some
returns-in_ok-push-in-Some c = node_added _ _ _ _ _ _ _ c.instance_module.ensures c.in-Some.is c.node_of-node.ensures c.in_ok-push-in-Some.ensures.ok
