use Rattle.uc_step_cycles.specs.Edges.{edges_from}
use Rattle.uc_step_cycles.specs.StepEdgesNumbers.{cell_at}
use Rattle.uc_step_cycles.proofs.Growing.{UpTo}
use Rattle.uc_step_cycles.proofs.reads.add_named.Given as goal

abbrev pub invariant-loop-name : goal.invariant-loop-name
invariant-loop-name l = UpTo (λ k s. edges_from l.from (cell_at l.names s)) l.named l.fn.graph l.name-index l.graph
