-- Operators on bits give numbers below the power of 2 of their width.
use Rattle.std.specs.Prelude.{ℕ, ◌≡◌, ◌+◌, ◌-◌, ◌*◌, ◌/◌, ◌%◌, ◌^◌, ◌<◌, ◌≤◌, Bool, true, false, cond, IsTrue, bit_and, bit_or, bit_xor}
use Rattle.std.proofs.Common.{sym, ap, ◌∙◌, arith, subst, pow_pos}
use Rattle.std.proofs.Math.Pow.{pow_mono}
use Rattle.std.proofs.Math.Nat.{div-eq_of_lt, mul-mod_left, div-le_self}
use Rattle.std.proofs.lemmas.Nat.{mod_below, pow-add, mul-add-lt, xor_lt, or_lt}
use Rattle.std.specs.Int.Bits.{and_lt}
use Rattle.uc_values.specs.Values.{fits, bits_of}
use Rattle.uc_values.specs.Operators.{added, subtracted, multiplied, negated, complemented, is_low, shifted_left, shifted_right, shifted_right_signed, concatenated, extracted, sign_extended, on_bits, on_two_bits, bv_add, bv_sub, bv_mul, bv_neg, bv_not, bv_and, bv_or, bv_xor, bv_shift_left, bv_shift_right, bv_shift_right_signed, bv_concat, bv_extract, bv_zero_extend, bv_sign_extend}
use Rattle.uc_values.proofs.Fitting.{IsBits-fits, fits-IsBits}
use Rattle.uc_values.specs.declared.ty.Ty.TheVariants.{Bv as Bits}
use Rattle.uc_values.specs.declared.value.Value.{Value}
use Rattle.uc_values.specs.declared.value.Value.TheVariants.{Bv}

-- a shift to the right by the width or more leaves nothing
pub shifted-out : (a width amount : ℕ) → a < 2 ^ width → width ≤ amount → shifted_right a amount ≡ 0
shifted-out a width amount h l = div-eq_of_lt (omega (arith, h, pow_mono {i = width} {j = amount} l))

-- a shift to the left by the width or more leaves nothing
pub shifted_left-out : (width a amount : ℕ) → width ≤ amount → shifted_left width a amount ≡ 0
shifted_left-out width a amount l =
    let more : ℕ = amount - width in
    let split : amount ≡ more + width = omega arith in
    let power : 2 ^ amount ≡ 2 ^ more * 2 ^ width = ap (λ n. 2 ^ n) split ∙ pow-add 2 more width in
    let product : a * 2 ^ amount ≡ (a * 2 ^ more) * 2 ^ width = omega (arith, ap (λ p. a * p) power) in
    ap (λ n. n % 2 ^ width) product ∙ mul-mod_left (a * 2 ^ more) (2 ^ width)

-- what is joined of two bit-vectors has as many bits as both
pub concatenated-small : (high_width high low_width low : ℕ) → high < 2 ^ high_width → low < 2 ^ low_width → concatenated low_width high low < 2 ^ (high_width + low_width)
concatenated-small h high l low a b = omega (arith, mul-add-lt high (2 ^ l) low (2 ^ h) a b, pow-add 2 h l)

pub joined_small : (h high l low : ℕ) → h + l ≤ 64 → high < 2 ^ h → low < 2 ^ l → high * 2 ^ l + low < 2 ^ 64
joined_small h high l low w a b = omega (arith, concatenated-small h high l low a b, pow_mono {i = h + l} {j = 64} w)

pub added-small : (width a b : ℕ) → added width a b < 2 ^ width
added-small width a b = mod_below (a + b) (2 ^ width) (pow_pos width)

pub subtracted-small : (width a b : ℕ) → subtracted width a b < 2 ^ width
subtracted-small width a b = mod_below (a + (2 ^ width - b)) (2 ^ width) (pow_pos width)

pub multiplied-small : (width a b : ℕ) → multiplied width a b < 2 ^ width
multiplied-small width a b = mod_below (a * b) (2 ^ width) (pow_pos width)

pub negated-small : (width a : ℕ) → negated width a < 2 ^ width
negated-small width a = mod_below (2 ^ width - a) (2 ^ width) (pow_pos width)

pub complemented-small : (width a : ℕ) → complemented width a < 2 ^ width
complemented-small width a = omega (arith, pow_pos width)

pub shifted_left-small : (width a amount : ℕ) → shifted_left width a amount < 2 ^ width
shifted_left-small width a amount = mod_below (a * 2 ^ amount) (2 ^ width) (pow_pos width)

pub shifted_right-small : (width a amount : ℕ) → a < 2 ^ width → shifted_right a amount < 2 ^ width
shifted_right-small width a amount h = omega (arith, h, div-le_self a (2 ^ amount))

choose : (P : ℕ → Type 0) (b : Bool) (m n : ℕ) → P m → P n → P (cond b m n)
choose P true m n p q = p
choose P false m n p q = q

pub shifted_right_signed-small : (width a amount : ℕ) → a < 2 ^ width → shifted_right_signed width a amount < 2 ^ width
shifted_right_signed-small width a amount h =
    choose (λ n. n < 2 ^ width) (is_low width a) (a / 2 ^ amount) (2 ^ width - 1 - (2 ^ width - 1 - a) / 2 ^ amount)
    (shifted_right-small width a amount h) (omega (arith, pow_pos width))

pub extracted-small : (high low a : ℕ) → extracted high low a < 2 ^ (high - low + 1)
extracted-small high low a = mod_below (a / 2 ^ low) (2 ^ (high - low + 1)) (pow_pos (high - low + 1))

pub sign_extended-small : (width more a : ℕ) → a < 2 ^ width → sign_extended width more a < 2 ^ (width + more)
sign_extended-small width more a h =
    let wider : 2 ^ width ≤ 2 ^ (width + more) = pow_mono {i = width} {j = width + more} (omega arith) in
    choose (λ n. n < 2 ^ (width + more)) (is_low width a) a (a + (2 ^ (width + more) - 2 ^ width)) (omega (arith, h, wider)) (omega (arith, h, wider))

-- what keeps the width of a bit-vector fits its type
on_fits : (f : ℕ → ℕ → ℕ) (width : ℕ) (v : Value) → IsTrue (fits (Bits width) v) → ((a : ℕ) → a < 2 ^ width → f width a < 2 ^ width) → IsTrue (fits (Bits width) (on_bits f v))
on_fits f width v h small =
    let b = IsBits-fits width v h in
    subst (λ u. IsTrue (fits (Bits width) (on_bits f u))) (sym b.is) (fits-IsBits width (f width b.number) (small b.number b.small))

on_two_fits : (f : ℕ → ℕ → ℕ → ℕ) (width : ℕ) (v w : Value) → IsTrue (fits (Bits width) v) → IsTrue (fits (Bits width) w) → ((a b : ℕ) → a < 2 ^ width → b < 2 ^ width → f width a b < 2 ^ width) → IsTrue (fits (Bits width) (on_two_bits f v w))
on_two_fits f width v w h g small =
    let a = IsBits-fits width v h in
    let b = IsBits-fits width w g in
    subst (λ u. IsTrue (fits (Bits width) (on_two_bits f u w))) (sym a.is)
    (subst (λ u. IsTrue (fits (Bits width) (on_two_bits f (Bv width a.number) u))) (sym b.is)
    (fits-IsBits width (f width a.number b.number) (small a.number b.number a.small b.small)))

pub bv_neg-fits : (width : ℕ) (v : Value) → IsTrue (fits (Bits width) v) → IsTrue (fits (Bits width) (bv_neg v))
bv_neg-fits width v h = on_fits negated width v h (λ a s. negated-small width a)

pub bv_not-fits : (width : ℕ) (v : Value) → IsTrue (fits (Bits width) v) → IsTrue (fits (Bits width) (bv_not v))
bv_not-fits width v h = on_fits complemented width v h (λ a s. complemented-small width a)

-- an operator on two bit-vectors of one width gives one of that width
abbrev pub KeepsWidth : (Value → Value → Value) → Type 0
KeepsWidth f = (width : ℕ) (v w : Value) → IsTrue (fits (Bits width) v) → IsTrue (fits (Bits width) w) → IsTrue (fits (Bits width) (f v w))

pub bv_add-fits : KeepsWidth bv_add
bv_add-fits width v w h g = on_two_fits added width v w h g (λ a b s t. added-small width a b)

pub bv_sub-fits : KeepsWidth bv_sub
bv_sub-fits width v w h g = on_two_fits subtracted width v w h g (λ a b s t. subtracted-small width a b)

pub bv_mul-fits : KeepsWidth bv_mul
bv_mul-fits width v w h g = on_two_fits multiplied width v w h g (λ a b s t. multiplied-small width a b)

pub bv_and-fits : KeepsWidth bv_and
bv_and-fits width v w h g = on_two_fits (λ width a b. bit_and a b) width v w h g (λ a b s t. and_lt width a b s t)

pub bv_or-fits : KeepsWidth bv_or
bv_or-fits width v w h g = on_two_fits (λ width a b. bit_or a b) width v w h g (λ a b s t. or_lt width a b s t)

pub bv_xor-fits : KeepsWidth bv_xor
bv_xor-fits width v w h g = on_two_fits (λ width a b. bit_xor a b) width v w h g (λ a b s t. xor_lt width a b s t)

pub bv_shift_left-fits : KeepsWidth bv_shift_left
bv_shift_left-fits width v w h g = on_two_fits shifted_left width v w h g (λ a b s t. shifted_left-small width a b)

pub bv_shift_right-fits : KeepsWidth bv_shift_right
bv_shift_right-fits width v w h g = on_two_fits (λ width a n. shifted_right a n) width v w h g (λ a b s t. shifted_right-small width a b s)

pub bv_shift_right_signed-fits : KeepsWidth bv_shift_right_signed
bv_shift_right_signed-fits width v w h g = on_two_fits shifted_right_signed width v w h g (λ a b s t. shifted_right_signed-small width a b s)

pub bv_concat-fits : (high low : ℕ) (v w : Value) → IsTrue (fits (Bits high) v) → IsTrue (fits (Bits low) w) → IsTrue (fits (Bits (high + low)) (bv_concat v w))
bv_concat-fits high low v w h g =
    let a = IsBits-fits high v h in
    let b = IsBits-fits low w g in
    subst (λ u. IsTrue (fits (Bits (high + low)) (bv_concat u w))) (sym a.is)
    (subst (λ u. IsTrue (fits (Bits (high + low)) (bv_concat (Bv high a.number) u))) (sym b.is)
    (fits-IsBits (high + low) (concatenated low a.number b.number) (concatenated-small high a.number low b.number a.small b.small)))

pub bv_extract-fits : (high low : ℕ) (v : Value) → IsTrue (fits (Bits (high - low + 1)) (bv_extract high low v))
bv_extract-fits high low v = fits-IsBits (high - low + 1) (extracted high low (bits_of v)) (extracted-small high low (bits_of v))

pub bv_zero_extend-fits : (width more : ℕ) (v : Value) → IsTrue (fits (Bits width) v) → IsTrue (fits (Bits (width + more)) (bv_zero_extend more v))
bv_zero_extend-fits width more v h =
    let b = IsBits-fits width v h in
    subst (λ u. IsTrue (fits (Bits (width + more)) (bv_zero_extend more u))) (sym b.is)
    (fits-IsBits (width + more) b.number (omega (arith, b.small, pow_mono {i = width} {j = width + more} (omega arith))))

pub bv_sign_extend-fits : (width more : ℕ) (v : Value) → IsTrue (fits (Bits width) v) → IsTrue (fits (Bits (width + more)) (bv_sign_extend more v))
bv_sign_extend-fits width more v h =
    let b = IsBits-fits width v h in
    subst (λ u. IsTrue (fits (Bits (width + more)) (bv_sign_extend more u))) (sym b.is)
    (fits-IsBits (width + more) (sign_extended width more b.number) (sign_extended-small width more b.number b.small))
