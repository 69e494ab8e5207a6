-- Which bit-vectors stand for labels.
use Rattle.std.specs.Prelude.{◌<◌, IsTrue, List}
use Rattle.std.specs.List.{AllZip}
use Rattle.uc_values.specs.Values.{fits, bits_of}
use Rattle.uc_values.specs.declared.ty.Ty.{Ty}
use Rattle.uc_values.specs.declared.ty.Ty.TheVariants.{Enum}
use Rattle.uc_values.specs.declared.value.Value.{Value}
use Rattle.uc_lower.specs.Fields.{low_type}

-- the number of bits that stand for a label is the place of a label
abbrev pub InRange : Ty → Value → Type 0
InRange (Enum number labels) w = bits_of w < labels
InRange other w = Unit {0}

-- the value stands for a value of the field
pub record IsCode (leaf : Ty) (w : Value) : Type 0 where
  pub fits : IsTrue (fits (low_type leaf) w)
  pub range : InRange leaf w

abbrev pub AreCodes : List Ty → List Value → Type 0
AreCodes leaves ws = AllZip IsCode leaves ws
