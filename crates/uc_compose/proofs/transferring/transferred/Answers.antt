use Rattle.std.proofs.Common.{◌≡◌, map, ap, ◌∙◌, sym, All, ◌<◌, length, subst, nat_eq, Some, slice_get}
use Rattle.indexmap.specs.IndexMap.{get}
use Rattle.uc_ops.specs.Typing.{Suits, types_at}
use Rattle.uc_compose.proofs.Copied.{node_copied, parts_copied, copies_known, made_copy_here}
use Rattle.uc_compose.proofs.transferring.transferred.Goals as goal

pub copies_of-requires : goal.copies_of-requires
copies_of-requires c =
    let at : slice_get c.args.from.now c.args.term ≡ Some c.node-node.result.now = ap (slice_get c.args.from.now) (sym c.index.ensures) ∙ c.node-node.ensures.node in
    let known = get nat_eq c.args.copies.now in
    rw c.as_slice.ensures (copies_known c.args.shared c.args.by c.args.into.now c.args.from.now known c.node-node.result.now.parts (parts_copied c.args.shared c.args.by c.args.from.now c.args.into.now known c.args.term c.node-node.result.now at c.requires.parts))

pub mk-made-requires-clause-there : goal.mk-made-requires-clause-there
mk-made-requires-clause-there c =
    let at : slice_get c.args.from.now c.args.term ≡ Some c.node-node.result.now = ap (slice_get c.args.from.now) (sym c.index.ensures) ∙ c.node-node.ensures.node in
    let known = get nat_eq c.args.copies.now in
    let n = node_copied c.args.shared c.args.by c.args.from.now c.args.into.now known c.args.term c.node-node.result.now c.in_ok-parts.parts c.in_ok-op.op c.node-node.ensures.well at c.requires.parts
    (c.in_ok-parts.ensures ∙ ap (map known) c.as_slice.ensures) c.in_ok-op.ensures in
    subst (All (λ p. p < length c.args.into.now)) (sym c.as_slice-2.ensures) n.there

pub mk-made-requires-clause-suits : goal.mk-made-requires-clause-suits
mk-made-requires-clause-suits c =
    let at : slice_get c.args.from.now c.args.term ≡ Some c.node-node.result.now = ap (slice_get c.args.from.now) (sym c.index.ensures) ∙ c.node-node.ensures.node in
    let known = get nat_eq c.args.copies.now in
    let n = node_copied c.args.shared c.args.by c.args.from.now c.args.into.now known c.args.term c.node-node.result.now c.in_ok-parts.parts c.in_ok-op.op c.node-node.ensures.well at c.requires.parts
    (c.in_ok-parts.ensures ∙ ap (map known) c.as_slice.ensures) c.in_ok-op.ensures in
    subst (λ ps. Suits c.in_ok-op.op (types_at c.args.into.now ps)) (sym c.as_slice-2.ensures) n.suits

pub returns-clause-copy : goal.returns-clause-copy
returns-clause-copy c =
    let at : slice_get c.args.from.now c.args.term ≡ Some c.node-node.result.now = ap (slice_get c.args.from.now) (sym c.index.ensures) ∙ c.node-node.ensures.node in
    let known = get nat_eq c.args.copies.now in
    let n = node_copied c.args.shared c.args.by c.args.from.now c.args.into.now known c.args.term c.node-node.result.now c.in_ok-parts.parts c.in_ok-op.op c.node-node.ensures.well at c.requires.parts
    (c.in_ok-parts.ensures ∙ ap (map known) c.as_slice.ensures) c.in_ok-op.ensures in
    made_copy_here c.args.shared c.args.by c.args.from.now c.args.into.now c.mk-made.new.self c.args.term c.node-node.result.now c.in_ok-parts.parts c.in_ok-op.op c.as_slice-2.result.now c.mk-made.result
    c.node-node.ensures.well c.len-count.ensures.well c.len-later.ensures.well at n.copies c.in_ok-op.ensures c.as_slice-2.ensures c.mk-made.ensures.ok c.mk-made.ensures.value
