use Rattle.uc_circuit.proofs.Digits.{Digits}
use Rattle.uc_circuit.proofs.constants.constant.Given as goal

abbrev pub invariant-loop-bit : goal.invariant-loop-bit
invariant-loop-bit l = Digits l._bit l.fn.number l.rest l.bits.items
