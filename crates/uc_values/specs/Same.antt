-- Values of types without arrays.
use Rattle.std.specs.Prelude.{◌≡◌, Bool, true, false}
use Rattle.std.specs.Bool.{Decides}
use Rattle.std.specs.List.{list_all}
use Rattle.uc_values.specs.declared.ty.Ty.{Ty}
use Rattle.uc_values.specs.declared.ty.Ty.TheFolds.{fold-Ty}
use Rattle.uc_values.specs.declared.ty.Ty.TheOpen.{Ty-F}
use Rattle.uc_values.specs.declared.ty.Ty.TheOpen.Ty-F.{Rec as record_type, Arr as array_type}
use Rattle.uc_values.specs.declared.value.Value.{Value}
use Rattle.uc_values.specs.Values.{fits}
use Rattle.uc_values.specs.Sameness.{same}

abbrev pub no_array_form : Ty-F Bool → Bool
no_array_form (record_type fields) = list_all (λ f. f.ty) fields
no_array_form (array_type index element) = false
no_array_form other = true

-- a type holds no array
abbrev pub has_no_array : Ty → Bool
has_no_array = fold-Ty Bool no_array_form

-- Of a type that holds no array, fitting values are the same exactly where they are equal.
abbrev pub SameLaw : Type 0
SameLaw = (ty : Ty) (a b : Value) → has_no_array ty ≡ true → fits ty a ≡ true → fits ty b ≡ true → Decides (same ty a b) (a ≡ b)
