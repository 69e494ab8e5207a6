-- How many bits the values of a type take.
use Rattle.std.specs.Prelude.{ℕ, zero, suc, ◌+◌, ◌-◌, ◌^◌, ◌≤◌, min, nat_le, if◌then◌else◌, List, [], ◌∷◌, map, Option, Some, None}
use Rattle.uc_values.specs.declared.ty.Field.{Field}
use Rattle.uc_values.specs.declared.ty.Ty.{Ty}
use Rattle.uc_values.specs.declared.ty.Ty.TheFolds.{fold-Ty}
use Rattle.uc_values.specs.declared.ty.Ty.TheOpen.{Ty-F}
use Rattle.uc_values.specs.declared.ty.Ty.TheOpen.Ty-F.{Bool as boolean_type, Int as integer_type, Bv as bits_type, Enum as enum_type, Un as open_type, Rec as record_type, Arr as array_type}

-- so many bits, at least one, tell the labels apart, and no fewer do
pub record IsLeastWidth (labels width : ℕ) : Type 0 where
  pub some : 1 ≤ width
  pub enough : labels ≤ 2 ^ width
  pub least : (other : ℕ) → 1 ≤ other → labels ≤ 2 ^ other → width ≤ other

-- how many bits tell the labels of an enum apart: one at least, and one more each time that the labels pass a power of 2
unfoldable pub label_bits : ℕ → ℕ
label_bits zero = 1
label_bits (suc labels) = if nat_le (suc labels) (2 ^ label_bits labels) then label_bits labels else label_bits labels + 1

-- a sum, where both are there
abbrev pub both_bits : Option ℕ → Option ℕ → Option ℕ
both_bits (Some m) (Some n) = Some (m + n)
both_bits None n = None
both_bits (Some m) None = None

abbrev pub total_bits : List (Field (Option ℕ)) → Option ℕ
total_bits [] = Some 0
total_bits (f ∷ fs) = both_bits f.ty (total_bits fs)

-- the bits of a type, where those of the types inside are given; an integer, an uninterpreted type and an array have no number of bits
abbrev pub bits_form : Ty-F (Option ℕ) → Option ℕ
bits_form boolean_type = Some 1
bits_form integer_type = None
bits_form (bits_type width) = Some width
bits_form (enum_type number labels) = Some (label_bits labels)
bits_form (open_type number) = None
bits_form (record_type fs) = total_bits fs
bits_form (array_type index element) = None

abbrev pub bit_count : Ty → Option ℕ
bit_count = fold-Ty (Option ℕ) bits_form

-- a number, or the greatest of 64 bits in place of a greater one
abbrev pub capped : ℕ → ℕ
capped n = min n (2 ^ 64 - 1)

-- the fields with the bits of their types
abbrev pub counts : List (Field Ty) → List (Field (Option ℕ))
counts fs = map (λ f. record { name = f.name; ty = bit_count f.ty }) fs
