use Rattle.std.proofs.Common.{◌≡◌, None, replicate}
use Rattle.uc_solver_rows.proofs.circuit.circuit_of.Given as goal

abbrev pub invariant-loop-number : goal.invariant-loop-number
invariant-loop-number l = l.circuit ≡ replicate l._number None
