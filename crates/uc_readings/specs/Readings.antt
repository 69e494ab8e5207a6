-- What the values of the program stand for in the definitions of the meaning.
use Rattle.std.specs.Prelude.{ℕ, zero, ◌+◌, ℤ, pos, List, [], ◌∷◌}
use Rattle.uc_syntax.specs.declared.expression.BitFunction.{BitFunction}
use Rattle.uc_syntax.specs.declared.expression.BitFunction.TheVariants.{ZeroExtend, SignExtend}
use Rattle.uc_values.specs.declared.ty.Ty.{Ty}
use Rattle.uc_values.specs.declared.ty.Ty.TheVariants.{Bv as bits_type}
use Rattle.uc_values.specs.declared.value.Value.{Value}
use Rattle.uc_meaning.specs.Operators.{on_bits}
use Rattle.uc_meaning.specs.Expressions.{Reading, reads, reads_nothing, width, on_bits_type}
use Rattle.uc_readings.specs.declared.said.Said.{Said}

abbrev pub reading_of : Said → Reading
reading_of r = record { type = r.ty; value = r.value }

-- what a function on bits says of arguments of these types and values
abbrev pub on_bits_said : BitFunction → List Ty → List Value → Reading
on_bits_said function (t ∷ (u ∷ [])) (v ∷ (w ∷ [])) = reads (on_bits_type function v u) (on_bits function v w)
on_bits_said function types values = reads_nothing

-- a whole number, and 0 where it is negative
abbrev pub natural : ℤ → ℕ
natural (pos n) = n
natural other = 0

-- the type that is extended by so many bits; a shift keeps it
abbrev pub extended_type : BitFunction → ℕ → Ty → Ty
extended_type ZeroExtend n t = bits_type (width t + n)
extended_type SignExtend n t = bits_type (width t + n)
extended_type shift n t = t
