use Rattle.std.proofs.Common.{◌*◌, take}
use Rattle.uc_circuit.specs.Signals.{signal_value, bit, number}
use Rattle.uc_circuit.proofs.Turns.{Turn}
use Rattle.uc_circuit.proofs.multiplying.times_bit.Given as goal

abbrev pub invariant-loop-i : goal.invariant-loop-i
invariant-loop-i l = Turn l.fn.gates l.gates l.i (λ v. number v (take l.i l.a) * bit (signal_value v l.fn.by)) l.bits.items
