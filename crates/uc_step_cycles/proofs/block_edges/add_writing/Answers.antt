use Rattle.std.proofs.Common.{[], ◌∷◌, ◌++◌, sym}
use Rattle.uc_step_cycles.specs.Building.{reads_edges, writes_edges}
use Rattle.uc_step_cycles.proofs.Growing.{adds_three_by}
use Rattle.uc_step_cycles.proofs.block_edges.add_writing.Goals as goal

pub returns : goal.returns
returns c =
    adds_three_by _ _ _ _ _ _ _ _
    (λ i.
    (c.args.number, sym c.in_ok-around.ensures i) ∷ []
    ++ (reads_edges c.args.names.now c.args.spot.node c.args.number (sym c.as_slice.ensures i) ++ writes_edges c.args.names.now c.args.spot.node c.args.number (sym c.as_slice-2.ensures i)))
    c.in_ok-add_edge.ensures c.in_ok-add_reads.ensures c.in_ok-add_writes.ensures
