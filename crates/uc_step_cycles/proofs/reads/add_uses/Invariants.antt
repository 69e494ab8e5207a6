use Rattle.uc_step_cycles.specs.Building.{use_edges}
use Rattle.uc_step_cycles.proofs.Growing.{UpTo}
use Rattle.uc_step_cycles.proofs.reads.add_uses.Given as goal

abbrev pub invariant-loop-number : goal.invariant-loop-number
invariant-loop-number l = UpTo (use_edges l.names l.start l.named) l.used l.fn.graph l.number l.graph
