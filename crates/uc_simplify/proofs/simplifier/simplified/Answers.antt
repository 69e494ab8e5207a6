use Rattle.std.proofs.Common.{refl, map, slice_index, ap, ◌∙◌}
use Rattle.uc_simplify.proofs.Standing.{node_answered, parts_within, rebuilt_stands_here}
use Rattle.uc_simplify.proofs.simplifier.simplified.Goals as goal

pub answered-requires : goal.answered-requires
answered-requires c =
    rw c.as_slice.ensures (parts_within c.args.terms.now c.args.answers.now c.args.place c.node-node.result.now c.node-node.ensures.node c.requires.answered)

pub rebuild-requires-clause-there : goal.rebuild-requires-clause-there
rebuild-requires-clause-there c =
    (node_answered c.args.terms.now c.args.answers.now c.args.place c.node-node.result.now c.in_ok-parts.parts.items c.in_ok-op.op c.node-node.ensures.well c.node-node.ensures.node c.requires.answered
    (c.in_ok-parts.ensures ∙ ap (map (slice_index c.args.answers.now)) c.as_slice.ensures) c.in_ok-op.ensures).there

pub rebuild-requires-clause-suits : goal.rebuild-requires-clause-suits
rebuild-requires-clause-suits c =
    (node_answered c.args.terms.now c.args.answers.now c.args.place c.node-node.result.now c.in_ok-parts.parts.items c.in_ok-op.op c.node-node.ensures.well c.node-node.ensures.node c.requires.answered
    (c.in_ok-parts.ensures ∙ ap (map (slice_index c.args.answers.now)) c.as_slice.ensures) c.in_ok-op.ensures).suits

pub returns-clause-stands : goal.returns-clause-stands
returns-clause-stands c =
    let n = node_answered c.args.terms.now c.args.answers.now c.args.place c.node-node.result.now c.in_ok-parts.parts.items c.in_ok-op.op c.node-node.ensures.well c.node-node.ensures.node c.requires.answered
    (c.in_ok-parts.ensures ∙ ap (map (slice_index c.args.answers.now)) c.as_slice.ensures) c.in_ok-op.ensures in
    rebuilt_stands_here c.args.terms.now c.rebuild.new.terms c.args.place c.node-node.result.now c.in_ok-parts.parts.items c.in_ok-op.op c.in_ok-parts.parts.items c.rebuild.result
    c.node-node.ensures.well c.node-node.ensures.node n.stand c.in_ok-op.ensures refl c.rebuild.ensures.rebuilt
