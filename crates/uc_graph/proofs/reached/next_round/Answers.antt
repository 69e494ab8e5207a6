use Rattle.std.proofs.Common.{false, [], subst, sym}
use Rattle.uc_graph.specs.Taking.{Takes}
use Rattle.uc_graph.proofs.Takings.{edges_end, edges_more, takes_none}
use Rattle.uc_graph.proofs.reached.next_round.Goals as goal

pub loop-node-init : goal.loop-node-init
loop-node-init c = subst (λ ns. Takes (λ n. false) c.args.left.now [] c.args.left.now ns) (sym c.new-next.ensures) (takes_none c.args.left.now [])

pub loop-node-preserved : goal.loop-node-preserved
loop-node-preserved c =
    edges_more c.args.graph.now c.args.fresh.now c.loop-node.node-index _ c.args.left.now [] c.loop-node.left c.loop-node.next c.take_needs.new.left c.take_needs.new.taken c.loop-node-test.true
    c.loop-node.invariant c.in_ok-take_needs.ensures

pub returns : goal.returns
returns c = edges_end c.args.graph.now c.args.fresh.now c.loop-node.node-index c.args.left.now [] c.loop-node.left c.loop-node.next c.loop-node-test.false c.loop-node.invariant
