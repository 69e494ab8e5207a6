use Rattle.std.proofs.Common.{take, bit_or}
use Rattle.uc_circuit.specs.Signals.{number}
use Rattle.uc_circuit.proofs.Turns.{Turn}
use Rattle.uc_circuit.proofs.bitwise.or_each.Given as goal

abbrev pub invariant-loop-i : goal.invariant-loop-i
invariant-loop-i l = Turn l.fn.gates l.gates l.i (λ v. bit_or (number v (take l.i l.a)) (number v (take l.i l.b))) l.bits.items
