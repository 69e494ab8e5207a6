use Rattle.uc_circuit.proofs.Shifts.{self-power}
use Rattle.uc_circuit.proofs.shifting.near_bits.Goals as goal

pub returns-clause-far : goal.returns-clause-far
returns-clause-far c = self-power c.args.width
