use Rattle.std.proofs.Common.{◌≡◌, ◌^◌, ◌<◌, ℕ}
use Rattle.uc_circuit.proofs.shifting.near_bits.Given as goal

abbrev pub invariant-loop-bit : goal.invariant-loop-bit
invariant-loop-bit l = (l.places ≡ 2 ^ l.bit) × ((i : ℕ) → i < l.bit → 2 ^ i < l.fn.width)
