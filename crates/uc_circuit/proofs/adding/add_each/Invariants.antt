use Rattle.uc_circuit.proofs.Sums.{Adding}
use Rattle.uc_circuit.proofs.adding.add_each.Given as goal

abbrev pub invariant-loop-i : goal.invariant-loop-i
invariant-loop-i l = Adding l.fn.gates l.gates l.i l.a l.b l.fn.carry l.last l.bits.items
