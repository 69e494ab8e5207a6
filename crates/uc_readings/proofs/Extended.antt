-- A bit-vector that is extended or shifted within 64 bits fits its width again.
use Rattle.std.proofs.Common.{◌≡◌, ℕ, ℤ, pos, ◌+◌, ◌^◌, ◌<◌, ◌≤◌, refl, arith}
use Rattle.std.proofs.Math.Pow.{pow_mono}
use Rattle.uc_values.specs.declared.value.Value.{Value}
use Rattle.uc_values.specs.declared.value.Value.TheVariants.{Int as whole, Bv as word}
use Rattle.uc_values.specs.Values.{width_in, bits_of}
use Rattle.uc_values.specs.Operators.{sign_extended}
use Rattle.uc_values.proofs.Words.{shifted_left-small, shifted_right-small, shifted_right_signed-small, sign_extended-small}
use Rattle.uc_syntax.specs.declared.expression.BitFunction.{BitFunction}
use Rattle.uc_syntax.specs.declared.expression.BitFunction.TheVariants.{ZeroExtend, SignExtend, ShiftLeft, ShiftRight, ShiftRightSigned}
use Rattle.uc_meaning.specs.Operators.{on_bits}
use Rattle.uc_meaning.specs.Expressions.{extension}
use Rattle.uc_operators.specs.Words.{IsWord}

pub extended_word : (f : BitFunction) (n v : Value) → IsWord v → width_in v + extension n ≤ 64 → IsWord (on_bits f n v)
extended_word ZeroExtend (whole (pos k)) (word w a) is within =
    record { width = within; small = omega (arith, is.small, pow_mono {i = w} {j = w + k} (omega arith)) }
extended_word SignExtend (whole (pos k)) (word w a) is within = record { width = within; small = sign_extended-small w k a is.small }
extended_word ShiftLeft (word u k) (word w a) is within = record { width = is.width; small = shifted_left-small w a k }
extended_word ShiftRight (word u k) (word w a) is within = record { width = is.width; small = shifted_right-small w a k is.small }
extended_word ShiftRightSigned (word u k) (word w a) is within = record { width = is.width; small = shifted_right_signed-small w a k is.small }
extended_word f n v is within = record { width = omega arith; small = omega arith }
