use Rattle.std.proofs.Common.{◌≡◌, ap, length, get_or, ◌∙◌, arith}
use Rattle.uc_step_cycles.proofs.SteppedBlocksTabled.{tabled_begin, tabled_end, tabled_more}
use Rattle.uc_step_cycles.proofs.stepped_blocks.Blocks.of.Goals as goal

pub loop-node-init : goal.loop-node-init
loop-node-init c = tabled_begin c.args.tree.now c.new-blocks.result c.new-blocks.ensures

pub loop-node-preserved : goal.loop-node-preserved
loop-node-preserved c =
    let size : length c.nodes-node-items.result.now ≡ length c.args.tree.now.nodes = ap length c.nodes-node-items.ensures in
    tabled_more c.args.tree.now c.loop-node.node-index c.node-item.result c.node-item.result c.loop-node.blocks c.push.new.self c.as_slice.result.now c.in_ok-block.block c.loop-node.invariant (omega (arith, size, c.loop-node-test.true))
    (c.node-item.is ∙ ap (λ ns. get_or ns c.loop-node.node-index c.node-item.result) c.nodes-node-items.ensures) c.as_slice.ensures c.in_ok-block.ensures c.in_ok-push.ensures.ok

pub returns : goal.returns
returns c =
    let size : length c.nodes-node-items.result.now ≡ length c.args.tree.now.nodes = ap length c.nodes-node-items.ensures in
    tabled_end c.args.tree.now c.loop-node.node-index c.loop-node.blocks c.loop-node.invariant (omega (arith, size, c.loop-node-test.false, c.loop-node.auto))
