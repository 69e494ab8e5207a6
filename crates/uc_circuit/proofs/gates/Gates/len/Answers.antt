use Rattle.uc_circuit.proofs.GateEquality.{same_gate}
use Rattle.uc_circuit.proofs.Sharing.{no_gate_twice}
use Rattle.uc_circuit.proofs.gates.Gates.len.Goals as goal

pub returns-clause-shared : goal.returns-clause-shared
unfolding same_gate
returns-clause-shared c = rw (← c.self.view_is) (no_gate_twice c.self.inside.inputs c.self.inside.gates.keys c.len.ensures.unique)
