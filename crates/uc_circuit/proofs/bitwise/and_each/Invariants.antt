use Rattle.std.proofs.Common.{take, bit_and}
use Rattle.uc_circuit.specs.Signals.{number}
use Rattle.uc_circuit.proofs.Turns.{Turn}
use Rattle.uc_circuit.proofs.bitwise.and_each.Given as goal

abbrev pub invariant-loop-i : goal.invariant-loop-i
invariant-loop-i l = Turn l.fn.gates l.gates l.i (λ v. bit_and (number v (take l.i l.a)) (number v (take l.i l.b))) l.bits.items
