use Rattle.std.proofs.Common.{◌≡◌, ◌+◌, ◌≤◌, drop, length, []}
use Rattle.uc_circuit.specs.Circuits.{evaluate, inputs_of}
use Rattle.uc_circuit.proofs.circuit.evaluated.Given as goal

abbrev pub invariant-loop-node : goal.invariant-loop-node
invariant-loop-node l = record {
  rest : evaluate (drop l.node-index l.nodes) (drop l.next l.inputs) l.values.items ≡ evaluate l.nodes l.inputs [];
  next : l.next + inputs_of (drop l.node-index l.nodes) ≤ length l.inputs;
  long : length l.values.items ≡ l.node-index;
}
