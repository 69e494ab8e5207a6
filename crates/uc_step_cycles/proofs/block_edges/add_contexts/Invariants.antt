use Rattle.uc_step_cycles.specs.Building.{context_edges}
use Rattle.uc_step_cycles.proofs.Growing.{UpTo}
use Rattle.uc_step_cycles.proofs.block_edges.add_contexts.Given as goal

abbrev pub invariant-loop-number : goal.invariant-loop-number
invariant-loop-number l = UpTo (context_edges l.names l.spot) l.contexts l.fn.graph l.number l.graph
