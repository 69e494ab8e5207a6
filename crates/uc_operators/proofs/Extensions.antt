-- A value that is no small whole number extends no bit-vector to one of at most 64 bits.
use Rattle.std.proofs.Common.{◌≡◌, ℕ, ◌+◌, ◌≤◌, ℤ, pos, false, None, Bool, refl, arith}
use Rattle.uc_values.specs.Values.{width_in}
use Rattle.uc_values.specs.declared.value.Value.{Value}
use Rattle.uc_values.specs.declared.value.Value.TheVariants.{Bool as truth, Int as whole, Bv as word}
use Rattle.uc_syntax.specs.declared.expression.BitFunction.TheVariants.{ZeroExtend, SignExtend}
use Rattle.uc_meaning.specs.Operators.{on_bits}
use Rattle.uc_operators.specs.Words.{IsWord}
use Rattle.uc_operators.specs.Bits.{IsCount}

pub no_zero_extension : (v : Value) (w a : ℕ) → IsCount None v → IsWord (on_bits ZeroExtend v (word w a)) → truth false ≡ on_bits ZeroExtend v (word w a)
no_zero_extension (whole (pos n)) w a none is = absurd (none n (omega (arith, is.width)) refl)
no_zero_extension v w a none is = refl

pub no_sign_extension : (v : Value) (w a : ℕ) → IsCount None v → IsWord (on_bits SignExtend v (word w a)) → truth false ≡ on_bits SignExtend v (word w a)
no_sign_extension (whole (pos n)) w a none is = absurd (none n (omega (arith, is.width)) refl)
no_sign_extension v w a none is = refl
