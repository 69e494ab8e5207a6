use Rattle.std.proofs.Common.{[], ◌∷◌, ◌+◌, ◌++◌, ap, sym, ◌∙◌}
use Rattle.uc_step_cycles.specs.Building.{reads_edges}
use Rattle.uc_step_cycles.proofs.Growing.{adds_two_by}
use Rattle.uc_step_cycles.proofs.block_edges.add_context.Goals as goal

pub returns : goal.returns
returns c =
    let from = c.in_ok-from.ensures ∙ ap (λ p. c.args.spot.base + p) c.in_ok-place.ensures in
    adds_two_by _ _ _ _ _ _
    (λ i. (sym from i, sym c.in_ok-around.ensures i) ∷ [] ++ reads_edges c.args.names.now c.args.spot.node (sym from i) (sym c.as_slice.ensures i))
    c.in_ok-add_edge.ensures c.in_ok-add_reads.ensures
