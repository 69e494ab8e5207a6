use Rattle.std.specs.Prelude.{◌≡◌, ◌++◌, None, Some, map, replicate, take}
use Rattle.uc_circuit.proofs.gates.Gates.circuit.Given as goal

abbrev pub invariant-loop-input : goal.invariant-loop-input
invariant-loop-input l = l.circuit ≡ replicate l._input None

abbrev pub invariant-loop-gate : goal.invariant-loop-gate
invariant-loop-gate l = l.circuit ≡ replicate l.fn.self.inputs None ++ map (λ g. Some g) (take l.gate-index l.fn.self.gates)
