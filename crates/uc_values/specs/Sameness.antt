-- When two values of a type are the same: part by part, and arrays where they hold the same at every index.
use Rattle.std.specs.Prelude.{ℕ, ◌^◌, Bool, true, false, ◌&&◌, ◌||◌, nat_eq, if◌then◌else◌, List, [], ◌∷◌, length, map, Option, Some, None, IsTrue, ◌≡◌, ◌↔◌}
use Rattle.std.specs.List.{list_all}
use Rattle.uc_values.specs.Types.{is_scalar}
use Rattle.uc_values.specs.Values.{Form, fits, same_scalar, lists, indices, parts_of}
use Rattle.uc_values.specs.Arrays.{element_at, at}
use Rattle.uc_values.specs.declared.ty.Field.{Field}
use Rattle.uc_values.specs.declared.ty.Ty.{Ty}
use Rattle.uc_values.specs.declared.ty.Ty.TheVariants.{Arr}
use Rattle.uc_values.specs.declared.ty.Ty.TheFolds.{fold-Ty}
use Rattle.uc_values.specs.declared.ty.Ty.TheOpen.{Ty-F}
use Rattle.uc_values.specs.declared.ty.Ty.TheOpen.Ty-F.{Bool as boolean_type, Bv as bits_type, Enum as enum_type, Rec as record_type, Arr as array_type}
use Rattle.uc_values.specs.declared.value.Value.{Value}
use Rattle.uc_values.specs.declared.value.Value.TheViews.{out-Value}
use Rattle.uc_values.specs.declared.value.Value.TheOpen.Value-F.{Arr as array}

-- What sameness asks of a type: when two of its values are the same, and for a scalar type how many values it has, if finitely many.
pub record Sameness : Type 0 where
  pub same : Value → Value → Bool
  pub count : Option ℕ

abbrev pub count_form : {A : Type 0} → Ty-F A → Option ℕ
count_form boolean_type = Some 2
count_form (bits_type width) = Some (2 ^ width)
count_form (enum_type number labels) = Some labels
count_form other = None

-- the parts are the same, field by field
abbrev pub same_parts : List (Field Sameness) → List Value → List Value → Bool
same_parts (f ∷ fs) (x ∷ xs) (y ∷ ys) = f.ty.same x y && same_parts fs xs ys
same_parts fs xs ys = true

-- the indices of two lists of exceptions, each once
abbrev pub joined : List Value → List Value → List Value
joined [] js = js
joined (i ∷ is) js = if lists js i then joined is js else i ∷ joined is js

-- so many distinct values of a type with this count are all that there are
abbrev pub are_all : Option ℕ → ℕ → Bool
are_all None listed = false
are_all (Some n) listed = nat_eq n listed

-- Two arrays agree at every index that either lists, and have the same default unless these are all values of the index type.
abbrev pub same_arrays : Sameness → Sameness → Form → Form → Bool
same_arrays index element (array d rows) (array e others) =
    list_all (λ i. element.same (element_at d rows i) (element_at e others i)) (joined (indices rows) (indices others))
    && (are_all index.count (length (joined (indices rows) (indices others))) || element.same d e)
same_arrays index element a b = false

abbrev pub same_form : Ty-F Sameness → Value → Value → Bool
same_form (record_type fs) a b = same_parts fs (parts_of a) (parts_of b)
same_form (array_type index element) a b = same_arrays index element (out-Value a) (out-Value b)
same_form scalar a b = same_scalar a b

abbrev pub sameness_form : Ty-F Sameness → Sameness
sameness_form ty = record { same = same_form ty; count = count_form ty }

abbrev pub sameness : Ty → Sameness
sameness = fold-Ty Sameness sameness_form

-- two values of a type are the same
abbrev pub same : Ty → Value → Value → Bool
same ty a b = (sameness ty).same a b

-- the fields with the sameness of their types
abbrev pub sames : List (Field Ty) → List (Field Sameness)
sames fs = map (λ f. record { name = f.name; ty = sameness f.ty }) fs

-- each of the first values passes or stands among the second
abbrev pub all_or_listed : (Value → Bool) → List Value → List Value → Bool
all_or_listed test is js = list_all (λ i. lists js i || test i) is

-- two arrays hold the same at every index that fits
abbrev pub Agrees : Ty → Ty → Value → Value → Type 0
Agrees index element a b = (i : Value) → IsTrue (fits index i) → IsTrue (same element (at a i) (at b i))

-- the answer says of fitting arrays whether they hold the same at every index that fits
abbrev pub IsAgreement : Ty → Value → Value → Bool → Type 0
IsAgreement ty a b answer =
    (index element : Ty) → ty ≡ Arr index element → IsTrue (is_scalar index) → IsTrue (fits ty a) → IsTrue (fits ty b) → IsTrue answer ↔ Agrees index element a b
