use Rattle.std.proofs.Common.{◌+◌}
use Rattle.uc_step_cycles.specs.Building.{act_edges}
use Rattle.uc_step_cycles.proofs.Growing.{UpTo}
use Rattle.uc_step_cycles.proofs.block_edges.add_acts.Given as goal

abbrev pub invariant-loop-number : goal.invariant-loop-number
invariant-loop-number l = UpTo (λ k a. act_edges l.names l.bases l.spot (l.start + k) a) l.acts l.fn.graph l.number l.graph
