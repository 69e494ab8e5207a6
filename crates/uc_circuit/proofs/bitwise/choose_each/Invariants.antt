use Rattle.std.proofs.Common.{take, cond}
use Rattle.uc_circuit.specs.Signals.{signal_value, number}
use Rattle.uc_circuit.proofs.Turns.{Turn}
use Rattle.uc_circuit.proofs.bitwise.choose_each.Given as goal

abbrev pub invariant-loop-i : goal.invariant-loop-i
invariant-loop-i l = Turn l.fn.gates l.gates l.i (λ v. cond (signal_value v l.fn.condition) (number v (take l.i l.a)) (number v (take l.i l.b))) l.bits.items
