use Rattle.uc_uses.specs.Trees.{step}
use Rattle.uc_step_cycles.specs.Edges.{edges_to}
use Rattle.uc_step_cycles.specs.StepEdgesNumbers.{cell_at}
use Rattle.uc_step_cycles.proofs.Growing.{UpTo}
use Rattle.uc_step_cycles.proofs.reads.add_writes.Given as goal

abbrev pub invariant-loop-name : goal.invariant-loop-name
invariant-loop-name l = UpTo (λ k x. edges_to l.to (cell_at l.names (step l.node x))) l.written l.fn.graph l.name-index l.graph
