use Rattle.std.proofs.Common.{◌≡◌, ℕ, zero, suc, [], ◌∷◌, ◌++◌, None, Some, replicate, sym, ◌∙◌, ap, arith}
use Rattle.uc_circuit.specs.declared.gate.Gate.{Gate}
use Rattle.uc_circuit.specs.Circuits.{inputs_of}
use Rattle.uc_solver_rows.proofs.circuit.gate_on.Goals as goal

inputs_of-replicate : (n : ℕ) (g : Gate) → inputs_of (replicate n None ++ Some g ∷ []) ≡ n
inputs_of-replicate zero g = omega arith
inputs_of-replicate (suc n) g = omega (arith, inputs_of-replicate n g)

pub value-requires-clause-inputs : goal.value-requires-clause-inputs
value-requires-clause-inputs c = sym (ap inputs_of c.in_ok-circuit_of.ensures ∙ inputs_of-replicate _ c.args.gate)
