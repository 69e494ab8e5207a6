-- The types of the tables are valid, and suit the operations on arrays and records.
use Rattle.std.specs.Prelude.{◌≡◌, ℕ, ◌<◌, true, ◌&&◌, [], ◌∷◌, All}
use Rattle.std.proofs.Common.{refl, ap, ◌∙◌, subst, sym}
use Rattle.std.proofs.lemmas.List.Elements.{All-cons, All-nil}
use Rattle.uc_values.specs.Types.{is_flat}
use Rattle.uc_values.specs.declared.ty.Ty.{Ty}
use Rattle.uc_values.specs.declared.ty.Ty.TheVariants.{Bool, Int}
use Rattle.uc_values.proofs.Shapes.{valid-Bool, valid-Int, valid-Arr, valid-Rec, scalar-Int, shape-Int}
use Rattle.uc_ops.specs.declared.op.Op.TheVariants.{Select, Store, Diff, MkRec, GetField}
use Rattle.uc_ops.specs.Typing.{Suits, Valid}
use Rattle.uc_terms_table.specs.Types.{array_of_integers, two_fields, record_of_two}

flat-Int : is_flat Int ≡ true
flat-Int = ap (λ s. s.flat) shape-Int

array_fine : Valid array_of_integers
array_fine = valid-Arr Int Int ∙ (λ i. (valid-Int i && valid-Int i) && (scalar-Int i && flat-Int i))

record_fine : Valid record_of_two
record_fine = valid-Rec two_fields ∙ (λ i. valid-Bool i && (valid-Int i && true))

pub array_is_valid : (ty : Ty) → ty ≡ array_of_integers → Valid ty
array_is_valid ty e = subst Valid (sym e) array_fine

pub record_is_valid : (ty : Ty) → ty ≡ record_of_two → Valid ty
record_is_valid ty e = subst Valid (sym e) record_fine

pub none_valid : All Valid []
none_valid = All-nil Valid

pub one_valid : (a : Ty) → Valid a → All Valid (a ∷ [])
one_valid a h = All-cons Valid a [] h none_valid

pub two_valid : (a b : Ty) → Valid a → Valid b → All Valid (a ∷ b ∷ [])
two_valid a b h i = All-cons Valid a (b ∷ []) h (one_valid b i)

pub three_valid : (a b c : Ty) → Valid a → Valid b → Valid c → All Valid (a ∷ b ∷ c ∷ [])
three_valid a b c h i j = All-cons Valid a (b ∷ c ∷ []) h (two_valid b c i j)

pub select_suits : (ty : Ty) → ty ≡ array_of_integers → Suits Select (ty ∷ Int ∷ [])
select_suits ty e = (Int, Int, ap (λ t. t ∷ Int ∷ []) e)

pub store_suits : (ty : Ty) → ty ≡ array_of_integers → Suits Store (ty ∷ Int ∷ Int ∷ [])
store_suits ty e = (Int, Int, ap (λ t. t ∷ Int ∷ Int ∷ []) e)

pub diff_suits : (ty other : Ty) → ty ≡ array_of_integers → other ≡ array_of_integers → Suits Diff (ty ∷ other ∷ [])
diff_suits ty other e f = (Int, Int, λ i. e i ∷ f i ∷ [])

pub make_suits : (ty : Ty) → ty ≡ record_of_two → Suits (MkRec ty) (Bool ∷ Int ∷ [])
make_suits ty e = (two_fields, e, refl, record_is_valid ty e)

pub field_suits : (place : ℕ) (ty : Ty) → ty ≡ record_of_two → place < 2 → Suits (GetField place) (ty ∷ [])
field_suits place ty e h = (two_fields, ap (λ t. t ∷ []) e, h)
