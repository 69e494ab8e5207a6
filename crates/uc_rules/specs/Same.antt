-- Types are the same where they have the same form and the same parts: aliases are read through before, and each enum and each type
-- without a definition is a type of its own. Records are the same where field names and types agree in order.
use Rattle.std.specs.Prelude.{Bool, true, false, ◌&&◌, nat_eq, List, [], ◌∷◌, map}
use Rattle.uc_values.specs.declared.ty.Ty.{Ty}
use Rattle.uc_values.specs.declared.ty.Field.{Field}
use Rattle.uc_values.specs.declared.ty.Ty.TheOpen.{Ty-F}
use Rattle.uc_values.specs.declared.ty.Ty.TheOpen.Ty-F.{Bool as boolean_of, Int as integer_of, Bv as bits_of, Enum as enum_of, Un as open_of, Rec as record_of, Arr as array_of}
use Rattle.uc_values.specs.declared.ty.Ty.TheViews.{out-Ty}
use Rattle.uc_values.specs.declared.ty.Ty.TheFolds.{fold-Ty}

-- the same names in the same order, with the same types
abbrev pub same_fields : List (Field (Ty → Bool)) → List (Field Ty) → Bool
same_fields [] [] = true
same_fields (f ∷ fs) (g ∷ gs) = nat_eq f.name g.name && (f.ty g.ty && same_fields fs gs)
same_fields fs gs = false

abbrev pub same_form : Ty-F (Ty → Bool) → Ty-F Ty → Bool
same_form boolean_of boolean_of = true
same_form integer_of integer_of = true
same_form (bits_of w) (bits_of v) = nat_eq w v
same_form (enum_of e n) (enum_of f m) = nat_eq e f && nat_eq n m
same_form (open_of t) (open_of u) = nat_eq t u
same_form (record_of fs) (record_of gs) = same_fields fs gs
same_form (array_of i e) (array_of j f) = i j && e f
same_form t u = false

abbrev pub same_type : Ty → Ty → Bool
same_type = fold-Ty (Ty → Bool) (λ t u. same_form t (out-Ty u))

-- the fields with their tests in place of their types
abbrev pub tests : List (Field Ty) → List (Field (Ty → Bool))
tests fs = map (λ f. record { name = f.name; ty = same_type f.ty }) fs
