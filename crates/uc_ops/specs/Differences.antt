-- An index at which two arrays differ.
use Rattle.std.specs.Prelude.{ℕ, pos, ◌+◌, ◌^◌, min, not, nat_eq, if◌then◌else◌, List, [], ◌∷◌, ◌++◌, length, Option, Some, None, zero, suc}
use Rattle.uc_values.specs.Values.{Form, Exception, zero_of, lists, indices, nothing}
use Rattle.uc_values.specs.Arrays.{at}
use Rattle.uc_values.specs.Sameness.{same}
use Rattle.uc_values.specs.declared.ty.Ty.{Ty}
use Rattle.uc_values.specs.declared.ty.Ty.TheVariants.{Bool as Boolean, Bv as Bits, Enum as Label, Un as Open}
use Rattle.uc_values.specs.declared.value.Value.{Value}
use Rattle.uc_values.specs.declared.value.Value.TheVariants.{Bool as Truth, Int, Bv, Enum, Un}
use Rattle.uc_values.specs.declared.value.Value.TheViews.{out-Value}
use Rattle.uc_values.specs.declared.value.Value.TheOpen.Value-F.{Arr as array}
use Rattle.uc_ops.specs.Typing.{index_of, element_of}

-- the values of a scalar type in the order 0, 1, 2 and so on: false before true, and labels by their places
abbrev pub nth_value : Ty → ℕ → Value
nth_value Boolean n = Truth (not (nat_eq n 0))
nth_value (Bits width) n = Bv width n
nth_value (Label number labels) n = Enum number n
nth_value (Open number) n = Un number n
nth_value other n = Int (pos n)

-- as many as n, but no more than the type has values
abbrev pub at_most : Ty → ℕ → ℕ
at_most Boolean n = min 2 n
at_most (Bits width) n = min (2 ^ width) n
at_most (Label number labels) n = min labels n
at_most other n = n

-- the first value from the n-th on, of so many, that is not listed
abbrev pub unlisted_from : Ty → List Value → ℕ → ℕ → Option Value
unlisted_from ty listed n zero = None
unlisted_from ty listed n (suc more) = if lists listed (nth_value ty n) then unlisted_from ty listed (n + 1) more else Some (nth_value ty n)

-- The first value of a type that is not listed, if there is one: among as many values as are listed, and one more, one is not.
abbrev pub unlisted : Ty → List Value → Option Value
unlisted ty listed = unlisted_from ty listed 0 (at_most ty (length listed + 1))

abbrev pub rows_form : Form → List Exception
rows_form (array default rows) = rows
rows_form other = []

abbrev pub default_form : Form → Value
default_form (array default rows) = default
default_form other = nothing

-- what an array lists, and what it holds elsewhere
abbrev pub rows_in : Value → List Exception
rows_in a = rows_form (out-Value a)

abbrev pub listed_in : Value → List Value
listed_in a = indices (rows_in a)

abbrev pub default_of : Value → Value
default_of a = default_form (out-Value a)

-- the first of the indices at which two arrays differ
abbrev pub first_difference : Ty → Value → Value → List Value → Option Value
first_difference element a b [] = None
first_difference element a b (i ∷ is) = if same element (at a i) (at b i) then first_difference element a b is else Some i

-- where the defaults differ, an index that neither array lists
abbrev pub default_difference : Ty → Ty → Value → Value → Option Value
default_difference index element a b = if same element (default_of a) (default_of b) then None else unlisted index (listed_in a ++ listed_in b)

abbrev pub value_or : Value → Option Value → Value
value_or v None = v
value_or v (Some w) = w

-- The first listed index at which two arrays differ, those of the first array first; else, where the defaults differ, the first
-- value of the index type that is not listed; else the one that counts as 0.
abbrev pub difference_in : Ty → Ty → Value → Value → Value
difference_in index element a b =
    value_or (value_or (zero_of index) (default_difference index element a b)) (first_difference element a b (listed_in a ++ listed_in b))

-- an index at which two arrays of a type differ, where they differ
abbrev pub difference : Ty → Value → Value → Value
difference ty a b = difference_in (index_of ty) (element_of ty) a b
