-- Kinds of types.
use Rattle.std.specs.Prelude.{Bool as Truth, true, false, nat_eq}
use Rattle.uc_values.specs.declared.ty.Ty.{Ty}
use Rattle.uc_values.specs.declared.ty.Ty.TheVariants.{Bool, Bv}

abbrev pub is_boolean : Ty → Truth
is_boolean Bool = true
is_boolean other = false

abbrev pub is_bits : Ty → Truth
is_bits (Bv width) = true
is_bits other = false

-- bit-vectors of one width
abbrev pub are_same_bits : Ty → Ty → Truth
are_same_bits (Bv v) (Bv w) = nat_eq v w
are_same_bits a b = false
