use Rattle.std.proofs.Common.{take}
use Rattle.uc_circuit.proofs.Scan.{Scan}
use Rattle.uc_circuit.proofs.clause_state.state_of.Given as goal

abbrev pub invariant-loop-literal : goal.invariant-loop-literal
invariant-loop-literal l = Scan l.values (take l.literal-index l.clause) l.unvalued
