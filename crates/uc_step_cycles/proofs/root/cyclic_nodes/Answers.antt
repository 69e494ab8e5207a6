use Rattle.std.proofs.Common.{subst}
use Rattle.uc_graph.specs.Cycles.{MarksCycles}
use Rattle.uc_step_cycles.proofs.root.cyclic_nodes.Goals as goal

pub returns : goal.returns
returns c = record { graph = c.in_ok-graph.graph; edges = c.in_ok-graph.ensures; marks = subst (λ g. MarksCycles g c.in_ok-flags.flags) c.as_slice.ensures c.in_ok-flags.ensures }
