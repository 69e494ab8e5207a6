-- The types of the rows are valid, and suit the operations.
use Rattle.std.specs.Prelude.{◌≡◌, ℕ, ℤ, ◌<◌, ◌^◌, Bool as Truth, true, ◌&&◌, List, [], ◌∷◌, Option, Some, None, IfSome}
use Rattle.std.proofs.Common.{refl, ap, ◌∙◌, subst, sym, arith}
use Rattle.uc_values.specs.Types.{is_flat}
use Rattle.uc_values.specs.declared.ty.Ty.{Ty}
use Rattle.uc_values.specs.declared.ty.Ty.TheVariants.{Bool, Int, Bv}
use Rattle.uc_values.specs.declared.value.Value.TheVariants.{Bool as Holds, Int as Integer, Bv as Bits}
use Rattle.uc_values.proofs.Shapes.{valid-Bool, valid-Int, valid-Bv, valid-Arr, valid-Rec, scalar-Bv, shape-Bv}
use Rattle.uc_values.proofs.Fitting.{Truth-fits, Int-fits, fits-IsBits}
use Rattle.uc_ops.specs.declared.op.Op.{Op}
use Rattle.uc_ops.specs.declared.op.Op.TheVariants.{Symbol, Const, Eq, Ite, Select, Store, MkRec, GetField}
use Rattle.uc_ops.specs.declared.node.Node.{Node}
use Rattle.uc_ops.specs.Typing.{Suits, Valid, type_at}
use Rattle.uc_terms_table.specs.Bytes.{array_of_bytes, two_fields, pair_of_bytes}

flat_byte : is_flat (Bv 8) ≡ true
flat_byte = ap (λ s. s.flat) (shape-Bv 8)

array_fine : Valid array_of_bytes
array_fine = valid-Arr (Bv 8) (Bv 8) ∙ (λ i. (valid-Bv 8 i && valid-Bv 8 i) && (scalar-Bv 8 i && flat_byte i))

pair_fine : Valid pair_of_bytes
pair_fine = valid-Rec two_fields ∙ (λ i. valid-Bv 8 i && (valid-Bv 8 i && true))

pub truth_symbol_suits : (n : ℕ) → Suits (Symbol n Bool) []
truth_symbol_suits n = (refl, valid-Bool)

pub byte_symbol_suits : (n : ℕ) → Suits (Symbol n (Bv 8)) []
byte_symbol_suits n = (refl, valid-Bv 8)

pub integer_symbol_suits : (n : ℕ) → Suits (Symbol n Int) []
integer_symbol_suits n = (refl, valid-Int)

pub truth_suits : (b : Truth) → Suits (Const Bool (Holds b)) []
truth_suits b = (refl, valid-Bool, refl, Truth-fits b)

pub number_suits : (z : ℤ) → Suits (Const Int (Integer z)) []
number_suits z = (refl, valid-Int, refl, Int-fits z)

pub byte_suits : (n : ℕ) → n < 2 ^ 8 → Suits (Const (Bv 8) (Bits 8 n)) []
byte_suits n h = (refl, valid-Bv 8, refl, fits-IsBits 8 n h)

pub wide_suits : (n : ℕ) → n < 2 ^ 16 → Suits (Const (Bv 16) (Bits 16 n)) []
wide_suits n h = (refl, valid-Bv 16, refl, fits-IsBits 16 n h)

pub one_suits : (op : Op) (s : Ty) (nodes : List Node) (part : Option ℕ) → Suits op (s ∷ []) → IfSome part (λ p. type_at nodes p ≡ s) → IfSome part (λ p. Suits op (type_at nodes p ∷ []))
one_suits op s nodes None h e = tt
one_suits op s nodes (Some p) h e = subst (λ u. Suits op (u ∷ [])) (sym e) h

pub two_suit : (op : Op) (s t : Ty) (nodes : List Node) (parts : Option (ℕ × ℕ)) → Suits op (s ∷ t ∷ []) → IfSome parts (λ r. type_at nodes r.0 ≡ s) → IfSome parts (λ r. type_at nodes r.1 ≡ t) → IfSome parts (λ r. Suits op (type_at nodes r.0 ∷ type_at nodes r.1 ∷ []))
two_suit op s t nodes None h e f = tt
two_suit op s t nodes (Some r) h e f = subst (λ x. Suits op (x ∷ type_at nodes r.1 ∷ [])) (sym e) (subst (λ y. Suits op (s ∷ y ∷ [])) (sym f) h)

pub alike_suit : (s t : Ty) → s ≡ t → Suits Eq (s ∷ t ∷ [])
alike_suit s t e = (t, ap (λ u. u ∷ t ∷ []) e)

pub choice_suits : (c s t : Ty) → c ≡ Bool → s ≡ t → Suits Ite (c ∷ s ∷ t ∷ [])
choice_suits c s t e f = (t, λ i. e i ∷ f i ∷ t ∷ [])

pub array_suits : (n : ℕ) (ty : Ty) → ty ≡ array_of_bytes → Suits (Symbol n ty) []
array_suits n ty e = (refl, subst Valid (sym e) array_fine)

pub store_suits : (a i x : Ty) → a ≡ array_of_bytes → i ≡ Bv 8 → x ≡ Bv 8 → Suits Store (a ∷ i ∷ x ∷ [])
store_suits a i x e f g = (Bv 8, Bv 8, λ k. e k ∷ f k ∷ g k ∷ [])

pub select_suits : (a i : Ty) → a ≡ array_of_bytes → i ≡ Bv 8 → Suits Select (a ∷ i ∷ [])
select_suits a i e f = (Bv 8, Bv 8, λ k. e k ∷ f k ∷ [])

pub pair_suits : (ty s t : Ty) → ty ≡ pair_of_bytes → s ≡ Bv 8 → t ≡ Bv 8 → Suits (MkRec ty) (s ∷ t ∷ [])
pair_suits ty s t e f g = (two_fields, e, λ k. f k ∷ g k ∷ [], subst Valid (sym e) pair_fine)

pub field_suits : (ty : Ty) → ty ≡ pair_of_bytes → Suits (GetField 1) (ty ∷ [])
field_suits ty e = (two_fields, ap (λ t. t ∷ []) e, omega arith)
