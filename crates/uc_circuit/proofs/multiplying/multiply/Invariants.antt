use Rattle.std.proofs.Common.{◌*◌, ◌^◌, ◌%◌, length, take}
use Rattle.uc_circuit.specs.Signals.{number}
use Rattle.uc_circuit.proofs.Turns.{Turn}
use Rattle.uc_circuit.proofs.multiplying.multiply.Given as goal

abbrev pub invariant-loop-i : goal.invariant-loop-i
invariant-loop-i l = Turn l.fn.gates l.gates (length l.a) (λ v. (number v l.a * number v (take l.i l.b)) % 2 ^ length l.a) l.sum.items
