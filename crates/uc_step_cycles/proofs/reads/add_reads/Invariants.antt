use Rattle.uc_uses.specs.Trees.{step}
use Rattle.uc_step_cycles.specs.Edges.{edges_from}
use Rattle.uc_step_cycles.specs.StepEdgesNumbers.{read_node}
use Rattle.uc_step_cycles.proofs.Growing.{UpTo}
use Rattle.uc_step_cycles.proofs.reads.add_reads.Given as goal

abbrev pub invariant-loop-name : goal.invariant-loop-name
invariant-loop-name l = UpTo (λ k x. edges_from l.from (read_node l.names (step l.node x))) l.read l.fn.graph l.name-index l.graph
