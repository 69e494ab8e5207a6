-- What the operators on bit-vectors give, on numbers below the power of 2 of a width, and on values.
use Rattle.std.specs.Prelude.{ℕ, ℤ, pos, ◌+◌, ◌-◌, ◌*◌, ◌/◌, ◌%◌, ◌^◌, ◌-ℤ◌, int_lt, int_le, bit_and, bit_or, bit_xor, Bool, nat_lt, nat_le, if◌then◌else◌}
use Rattle.uc_values.specs.Values.{bits_of, width_in}
use Rattle.uc_values.specs.declared.value.Value.{Value}
use Rattle.uc_values.specs.declared.value.Value.TheVariants.{Bv}

-- sums, differences, products and negations are taken modulo the power of 2 of the width
abbrev pub added : ℕ → ℕ → ℕ → ℕ
added width a b = (a + b) % 2 ^ width

abbrev pub subtracted : ℕ → ℕ → ℕ → ℕ
subtracted width a b = (a + (2 ^ width - b)) % 2 ^ width

abbrev pub multiplied : ℕ → ℕ → ℕ → ℕ
multiplied width a b = (a * b) % 2 ^ width

abbrev pub negated : ℕ → ℕ → ℕ
negated width a = (2 ^ width - a) % 2 ^ width

-- each bit is turned
abbrev pub complemented : ℕ → ℕ → ℕ
complemented width a = 2 ^ width - 1 - a

-- the highest bit is 0
abbrev pub is_low : ℕ → ℕ → Bool
is_low width a = nat_lt a (2 ^ (width - 1))

-- the whole number that bits stand for in two's complement
abbrev pub signed : ℕ → ℕ → ℤ
signed width a = if is_low width a then pos a else pos a -ℤ pos (2 ^ width)

-- a shift to the left by an amount; from the width on it gives 0
abbrev pub shifted_left : ℕ → ℕ → ℕ → ℕ
shifted_left width a amount = a * 2 ^ amount % 2 ^ width

-- a shift to the right by an amount; from the width on it gives 0
abbrev pub shifted_right : ℕ → ℕ → ℕ
shifted_right a amount = a / 2 ^ amount

-- a shift to the right that copies the highest bit; from the width on it gives copies of that bit
abbrev pub shifted_right_signed : ℕ → ℕ → ℕ → ℕ
shifted_right_signed width a amount = if is_low width a then a / 2 ^ amount else 2 ^ width - 1 - (2 ^ width - 1 - a) / 2 ^ amount

-- the first is the high part
abbrev pub concatenated : ℕ → ℕ → ℕ → ℕ
concatenated low_width high low = high * 2 ^ low_width + low

-- the bits from high down to low, both included
abbrev pub extracted : ℕ → ℕ → ℕ → ℕ
extracted high low a = a / 2 ^ low % 2 ^ (high - low + 1)

-- so many copies of the highest bit before the bits
abbrev pub sign_extended : ℕ → ℕ → ℕ → ℕ
sign_extended width more a = if is_low width a then a else a + (2 ^ (width + more) - 2 ^ width)

-- an operator on bits of one width, which keeps the width
abbrev pub on_bits : (ℕ → ℕ → ℕ) → Value → Value
on_bits f v = Bv (width_in v) (f (width_in v) (bits_of v))

abbrev pub on_two_bits : (ℕ → ℕ → ℕ → ℕ) → Value → Value → Value
on_two_bits f v w = Bv (width_in v) (f (width_in v) (bits_of v) (bits_of w))

abbrev pub bv_add : Value → Value → Value
bv_add v w = on_two_bits added v w

abbrev pub bv_sub : Value → Value → Value
bv_sub v w = on_two_bits subtracted v w

abbrev pub bv_mul : Value → Value → Value
bv_mul v w = on_two_bits multiplied v w

abbrev pub bv_neg : Value → Value
bv_neg v = on_bits negated v

abbrev pub bv_not : Value → Value
bv_not v = on_bits complemented v

abbrev pub bv_and : Value → Value → Value
bv_and v w = on_two_bits (λ width a b. bit_and a b) v w

abbrev pub bv_or : Value → Value → Value
bv_or v w = on_two_bits (λ width a b. bit_or a b) v w

abbrev pub bv_xor : Value → Value → Value
bv_xor v w = on_two_bits (λ width a b. bit_xor a b) v w

-- the value, and then the amount
abbrev pub bv_shift_left : Value → Value → Value
bv_shift_left v amount = on_two_bits shifted_left v amount

abbrev pub bv_shift_right : Value → Value → Value
bv_shift_right v amount = on_two_bits (λ width a n. shifted_right a n) v amount

abbrev pub bv_shift_right_signed : Value → Value → Value
bv_shift_right_signed v amount = on_two_bits shifted_right_signed v amount

abbrev pub bv_concat : Value → Value → Value
bv_concat v w = Bv (width_in v + width_in w) (concatenated (width_in w) (bits_of v) (bits_of w))

abbrev pub bv_extract : ℕ → ℕ → Value → Value
bv_extract high low v = Bv (high - low + 1) (extracted high low (bits_of v))

abbrev pub bv_zero_extend : ℕ → Value → Value
bv_zero_extend more v = Bv (width_in v + more) (bits_of v)

abbrev pub bv_sign_extend : ℕ → Value → Value
bv_sign_extend more v = Bv (width_in v + more) (sign_extended (width_in v) more (bits_of v))

-- the whole number that a bit-vector stands for in two's complement
abbrev pub signed_of : Value → ℤ
signed_of v = signed (width_in v) (bits_of v)

abbrev pub bv_less : Value → Value → Bool
bv_less v w = nat_lt (bits_of v) (bits_of w)

abbrev pub bv_at_most : Value → Value → Bool
bv_at_most v w = nat_le (bits_of v) (bits_of w)

abbrev pub bv_less_signed : Value → Value → Bool
bv_less_signed v w = int_lt (signed_of v) (signed_of w)

abbrev pub bv_at_most_signed : Value → Value → Bool
bv_at_most_signed v w = int_le (signed_of v) (signed_of w)
