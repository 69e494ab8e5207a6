-- The types of nodes and of parts; the type of an operation on parts that suit it is valid.
use Rattle.std.specs.Prelude.{◌≡◌, ℕ, ◌+◌, ◌-◌, ◌≤◌, true, ◌&&◌, nat_le, List, [], ◌∷◌, slice_get, Some}
use Rattle.std.specs.List.{list_all}
use Rattle.std.specs.Option.{option_map}
use Rattle.std.proofs.Common.{refl, sym, ap, ◌∙◌, arith, rules, subst, inl, inr}
use Rattle.std.proofs.lemmas.Bool.Decides.{nat_tests, leb_tells}
use Rattle.std.proofs.lemmas.Bool.{false≢true}
use Rattle.std.proofs.lemmas.List.{length-map}
use Rattle.std.proofs.lemmas.List.Elements.{All-head, All-cons, All-nil}
use Rattle.std.proofs.lemmas.Option.{slice_get-map, get_or_from_slice_get}
use Rattle.uc_values.specs.Types.{is_valid, field_types}
use Rattle.uc_values.proofs.Shapes.{and_true, valid-Bool, valid-Int, valid-Bv, valid-Rec, valid-Arr}
use Rattle.uc_values.specs.declared.ty.Ty.{Ty}
use Rattle.uc_values.specs.declared.ty.Field.{Field}
use Rattle.uc_values.specs.declared.ty.Ty.TheVariants.{Bool, Bv, Rec, Arr}
use Rattle.uc_values.specs.declared.ty.Ty.TheViews.{the_lemmas}
use Rattle.uc_ops.specs.declared.op.Op.{Op}
use Rattle.uc_ops.specs.declared.op.Op.TheVariants.{Symbol, Const, Not, And, Or, Eq, Ite, Add, Scale, Le, BvAdd, BvSub, BvMul, BvNeg, BvAnd, BvOr, BvXor, BvNot, Concat, Extract, ZeroExt, SignExt, Shl, Lshr, Ashr, Slt, Sle, Ult, Ule, App, Select, Store, Diff, MkRec, GetField}
use Rattle.uc_ops.specs.declared.node.Node.{Node}
use Rattle.uc_ops.specs.Typing.{Suits, Valid, AllValid, Bits, Pair_of_bits, Extends, type_of, type_in, type_at, types_at, type_or, part_type, fields_of, index_of, element_of, width_of}
use Rattle.uc_ops.proofs.Lists.{slice_get-within, at_place}

-- the type of a part by its place
pub type-of_part : (nodes : List Node) (parts : List ℕ) (place p : ℕ) (node : Node) → slice_get parts place ≡ Some p → slice_get nodes p ≡ Some node → part_type (types_at nodes parts) place ≡ node.ty
unfolding type_at
type-of_part nodes parts place p node h g =
    ap type_or (slice_get-map (type_at nodes) parts place ∙ ap (option_map (type_at nodes)) h) ∙ ap type_in g

pub fields-Rec : (fields : List (Field Ty)) → fields_of (Rec fields) ≡ fields
fields-Rec fields = search (rules, the_lemmas)

pub index-Arr : (index element : Ty) → index_of (Arr index element) ≡ index
index-Arr index element = search (rules, the_lemmas)

pub element-Arr : (index element : Ty) → element_of (Arr index element) ≡ element
element-Arr index element = search (rules, the_lemmas)

pub Bv-small : (width : ℕ) → Valid (Bv width) → width ≤ 64
Bv-small width v =
    let b = and_true (sym (valid-Bv width) ∙ v) in
    elim (leb_tells width 64) [ inl x ↦ x.1 | inr x ↦ absurd (false≢true (sym x.0 ∙ b.1)) ]

pub Bv-positive : (width : ℕ) → Valid (Bv width) → 1 ≤ width
Bv-positive width v =
    let b = and_true (sym (valid-Bv width) ∙ v) in
    elim (leb_tells 1 width) [ inl x ↦ x.1 | inr x ↦ absurd (false≢true (sym x.0 ∙ b.0)) ]

pub Bv-valid : (width : ℕ) → 1 ≤ width → width ≤ 64 → Valid (Bv width)
Bv-valid width l h = let t : (nat_le 1 width && nat_le width 64) ≡ true = grind (arith, nat_tests) in valid-Bv width ∙ t

-- a type that stands at a place of a list is valid where all are
valid_place : (types known : List Ty) (place : ℕ) (ty : Ty) → types ≡ known → slice_get known place ≡ Some ty → AllValid types → Valid (part_type types place)
valid_place types known place ty e g h =
    let within = slice_get-within known place ty g in
    let at : slice_get types place ≡ Some ty = ap (λ ts. slice_get ts place) e ∙ g in
    let v : Valid ty = subst Valid (get_or_from_slice_get types place ty Bool at) (h place Bool (slice_get-within types place ty at)) in
    subst (λ o. Valid (type_or o)) (sym at) v

pub first_valid : (ty : Ty) (rest types : List Ty) → types ≡ ty ∷ rest → AllValid types → Valid ty
first_valid ty rest types e v = All-head Valid ty rest (subst AllValid e v)

-- the types of the fields of a valid record are valid
fields_valid : (fields : List (Field Ty)) → list_all (λ (f : Field Ty). is_valid f.ty) fields ≡ true → AllValid (field_types fields)
fields_valid [] h = All-nil Valid
fields_valid (f ∷ fields) h = let both = and_true h in All-cons Valid f.ty (field_types fields) both.0 (fields_valid fields both.1)

bits_valid : (types : List Ty) → Bits types → AllValid types → Valid (part_type types 0)
bits_valid types s h = valid_place types (Bv s.0 ∷ []) 0 (Bv s.0) s.1 refl h

pair_valid : (types : List Ty) → Pair_of_bits types → AllValid types → Valid (part_type types 0)
pair_valid types s h = valid_place types (Bv s.0 ∷ Bv s.0 ∷ []) 0 (Bv s.0) s.1 refl h

wider_valid : (more : ℕ) (types : List Ty) → Extends more types → AllValid types → Valid (Bv (width_of (part_type types 0) + more))
wider_valid more types s h =
    let low = Bv-positive s.0 (first_valid (Bv s.0) [] types s.1 h) in
    subst (λ ts. Valid (Bv (width_of (part_type ts 0) + more))) (sym s.1) (Bv-valid (s.0 + more) (omega arith) s.2)

-- the type of an operation on parts that suit it is valid
pub type_of-valid : (op : Op) (types : List Ty) → Suits op types → AllValid types → Valid (type_of op types)
type_of-valid (Symbol number ty) types s h = s.1
type_of-valid (Const ty value) types s h = s.1
type_of-valid (App number ty) types s h = s.1
type_of-valid Ite types s h = valid_place types (Bool ∷ s.0 ∷ s.0 ∷ []) 1 s.0 s.1 refl h
type_of-valid BvAdd types s h = pair_valid types s h
type_of-valid BvSub types s h = pair_valid types s h
type_of-valid BvMul types s h = pair_valid types s h
type_of-valid BvAnd types s h = pair_valid types s h
type_of-valid BvOr types s h = pair_valid types s h
type_of-valid BvXor types s h = pair_valid types s h
type_of-valid Shl types s h = pair_valid types s h
type_of-valid Lshr types s h = pair_valid types s h
type_of-valid Ashr types s h = pair_valid types s h
type_of-valid BvNeg types s h = bits_valid types s h
type_of-valid BvNot types s h = bits_valid types s h
type_of-valid (ZeroExt more) types s h = wider_valid more types s h
type_of-valid (SignExt more) types s h = wider_valid more types s h
type_of-valid (Extract high low) types s h =
    let small = Bv-small s.0 (first_valid (Bv s.0) [] types s.1 h) in
    Bv-valid (high - low + 1) (omega arith) (omega (arith, s.2, s.3, small))
type_of-valid Concat types s h =
    let low = Bv-positive s.0 (first_valid (Bv s.0) (Bv s.1 ∷ []) types s.2 h) in
    subst (λ ts. Valid (Bv (width_of (part_type ts 0) + width_of (part_type ts 1)))) (sym s.2) (Bv-valid (s.0 + s.1) (omega (arith, low)) s.3)
type_of-valid (MkRec ty) types s h = s.3
type_of-valid (GetField place) types s h =
    let record_valid = first_valid (Rec s.0) [] types s.1 h in
    let r = at_place (field_types s.0) place (omega (arith, s.2, length-map s.0 (λ (f : Field Ty). f.ty))) in
    let v = valid_place (field_types s.0) (field_types s.0) place r.0 refl r.1 (fields_valid s.0 (sym (valid-Rec s.0) ∙ record_valid)) in
    subst (λ ts. Valid (part_type (field_types (fields_of (part_type ts 0))) place)) (sym s.1) (subst (λ fs. Valid (part_type (field_types fs) place)) (sym (fields-Rec s.0)) v)
type_of-valid Store types s h = valid_place types (Arr s.0 s.1 ∷ s.0 ∷ s.1 ∷ []) 0 (Arr s.0 s.1) s.2 refl h
type_of-valid Select types s h =
    let array_valid = first_valid (Arr s.0 s.1) (s.0 ∷ []) types s.2 h in
    subst (λ ts. Valid (element_of (part_type ts 0))) (sym s.2) (subst Valid (sym (element-Arr s.0 s.1)) (and_true (and_true (sym (valid-Arr s.0 s.1) ∙ array_valid)).0).1)
type_of-valid Diff types s h =
    let array_valid = first_valid (Arr s.0 s.1) (Arr s.0 s.1 ∷ []) types s.2 h in
    subst (λ ts. Valid (index_of (part_type ts 0))) (sym s.2) (subst Valid (sym (index-Arr s.0 s.1)) (and_true (and_true (sym (valid-Arr s.0 s.1) ∙ array_valid)).0).0)
type_of-valid Add types s h = valid-Int
type_of-valid (Scale factor) types s h = valid-Int
type_of-valid Not types s h = valid-Bool
type_of-valid And types s h = valid-Bool
type_of-valid Or types s h = valid-Bool
type_of-valid Eq types s h = valid-Bool
type_of-valid Le types s h = valid-Bool
type_of-valid Slt types s h = valid-Bool
type_of-valid Sle types s h = valid-Bool
type_of-valid Ult types s h = valid-Bool
type_of-valid Ule types s h = valid-Bool
