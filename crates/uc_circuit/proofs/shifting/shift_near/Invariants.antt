use Rattle.std.proofs.Common.{◌≡◌, ◌^◌, length, take}
use Rattle.uc_circuit.specs.Signals.{number}
use Rattle.uc_circuit.specs.Shifting.{shifted}
use Rattle.uc_circuit.proofs.Turns.{Turn}
use Rattle.uc_circuit.proofs.shifting.shift_near.Given as goal

abbrev pub invariant-loop-i : goal.invariant-loop-i
invariant-loop-i l = (l.places ≡ 2 ^ l.i) × Turn l.fn.gates l.gates (length l.a) (λ v. shifted v (length l.a) l.fn.shift (number v l.a) (number v (take l.i l.amount))) l.bits.items
