use Rattle.std.proofs.Common.{◌≡◌, ap, get_or, length, ◌∙◌, arith}
use Rattle.std.specs.List.{flat_map}
use Rattle.uc_rules.specs.Faults.{first_of}
use Rattle.uc_uses.specs.Noted.{noted}
use Rattle.uc_uses.proofs.Told.{nodes_begin, nodes_end, nodes_more}
use Rattle.uc_uses.proofs.noting.note_flagged.Goals as goal

pub loop-node-init : goal.loop-node-init
loop-node-init c = nodes_begin c.args.root.now.tree c.args.root.now.table c.args.flags.now c.args.first.now

pub loop-node-preserved : goal.loop-node-preserved
loop-node-preserved c =
    let size : length c.nodes-found-items.result.now ≡ length c.args.root.now.tree.nodes = ap length c.nodes-found-items.ensures in
    nodes_more c.args.root.now.tree c.args.root.now.table c.args.flags.now c.args.first.now c.loop-node.node c.found-item.result c.found-item.result c.loop-node.first c.note_declarations.new.first (omega (arith, size, c.loop-node-test.true))
    (c.found-item.is ∙ ap (λ ns. get_or ns c.loop-node.node c.found-item.result) c.nodes-found-items.ensures) c.loop-node.invariant
    (c.note_declarations.ensures ∙ ap (λ ds. first_of c.loop-node.first (flat_map (noted c.args.root.now.tree c.args.root.now.table c.args.flags.now c.loop-node.node) ds)) c.as_slice.ensures)

pub returns : goal.returns
returns c =
    let size : length c.nodes-found-items.result.now ≡ length c.args.root.now.tree.nodes = ap length c.nodes-found-items.ensures in
    nodes_end c.args.root.now.tree c.args.root.now.table c.args.flags.now c.args.first.now c.loop-node.node c.loop-node.first (omega (arith, size, c.loop-node-test.false, c.loop-node.auto.node-end)) c.loop-node.invariant
