use Rattle.std.proofs.Common.{◌≡◌, ap, length, get_or, ◌∙◌, arith}
use Rattle.uc_step_cycles.proofs.CellTableTabled.{tabled_begin, tabled_end, tabled_more}
use Rattle.uc_step_cycles.proofs.table.CellTable.of.Goals as goal

pub loop-number-init : goal.loop-number-init
loop-number-init c = tabled_begin c.args.tree.now c.new-cells.result c.new-nodes.result c.new-cells.ensures c.new-nodes.ensures

pub loop-number-preserved : goal.loop-number-preserved
loop-number-preserved c =
    let size : length c.nodes-node-items.result.now ≡ length c.args.tree.now.nodes = ap length c.nodes-node-items.ensures in
    tabled_more c.args.tree.now c.loop-number.number c.node-item.result c.node-item.result c.loop-number.cells c.node_cells.new.cells c.loop-number.nodes c.push.new.self c.in_ok-found.found
    c.loop-number.invariant (omega (arith, size, c.loop-number-test.true)) (c.node-item.is ∙ ap (λ ns. get_or ns c.loop-number.number c.node-item.result) c.nodes-node-items.ensures) c.in_ok-found.ensures c.in_ok-push.ensures.ok

pub returns : goal.returns
returns c =
    let size : length c.nodes-node-items.result.now ≡ length c.args.tree.now.nodes = ap length c.nodes-node-items.ensures in
    tabled_end c.args.tree.now c.loop-number.number c.loop-number.cells c.loop-number.nodes (omega (arith, size, c.loop-number-test.false, c.loop-number.auto)) c.loop-number.invariant
