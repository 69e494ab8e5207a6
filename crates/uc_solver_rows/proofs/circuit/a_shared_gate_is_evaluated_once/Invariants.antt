use Rattle.std.proofs.Common.{◌≡◌, ◌<◌, length}
use Rattle.uc_circuit.specs.Circuits.{inputs_of}
use Rattle.uc_solver_rows.proofs.circuit.a_shared_gate_is_evaluated_once.Given as goal

abbrev pub invariant-loop-number : goal.invariant-loop-number
invariant-loop-number g l = record {
  inputs : inputs_of l.circuit ≡ 1;
  last : l.last.var < length l.circuit;
}
