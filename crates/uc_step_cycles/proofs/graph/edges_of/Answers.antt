use Rattle.std.proofs.Common.{◌++◌, sym}
use Rattle.uc_step_cycles.specs.Building.{blocks_edges, uses_edges}
use Rattle.uc_step_cycles.proofs.Growing.{adds_two_by, whole_graph}
use Rattle.uc_step_cycles.proofs.graph.edges_of.Goals as goal

pub returns : goal.returns
returns c =
    whole_graph _ _ _ _ c.in_ok-graph.ensures
    (adds_two_by _ _ _ _ _ _
    (λ i. uses_edges c.args.names.now (sym c.count-start.ensures i) (sym c.names.ensures i) (sym c.uses.ensures i) ++ blocks_edges c.args.names.now c.args.bases.now c.args.blocks.now)
    c.in_ok-add_uses.ensures c.in_ok-add_blocks.ensures)
