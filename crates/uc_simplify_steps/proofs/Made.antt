-- Rules for records and arrays that are made.
use Rattle.std.specs.Prelude.{◌≡◌, ℕ, ◌<◌, false, cond, IsTrue, List, [], ◌∷◌, length, slice_get, slice_index_or, Some, Contains}
use Rattle.std.proofs.Common.{refl, sym, ap, ◌∙◌, arith, subst, zero, suc}
use Rattle.std.proofs.lemmas.List.Elements.{All-nil, All-cons, All-head, All-tail, All-contains}
use Rattle.uc_values.specs.Values.{nothing, fits, field_of, same_scalar}
use Rattle.uc_values.specs.Types.{is_valid, field_types}
use Rattle.uc_values.specs.Arrays.{at, store}
use Rattle.uc_values.specs.Sameness.{same}
use Rattle.uc_values.specs.declared.ty.Ty.{Ty}
use Rattle.uc_values.specs.declared.ty.Ty.TheVariants.{Arr as Array}
use Rattle.uc_values.specs.declared.value.Value.{Value}
use Rattle.uc_values.specs.declared.value.Value.TheVariants.{Bool as Holds}
use Rattle.uc_values.proofs.Fitting.{IsArray-fits, parts-Rec}
use Rattle.uc_values.proofs.Stores.{at-store}
use Rattle.uc_ops.specs.declared.model.Model.{Model}
use Rattle.uc_ops.specs.declared.op.Op.TheVariants.{Eq as Equal, Select, Store, MkRec, GetField}
use Rattle.uc_ops.specs.declared.node.Node.{Node}
use Rattle.uc_ops.specs.Typing.{Suits, part_type, type_at, types_at, fields_of, element_of}
use Rattle.uc_ops.proofs.Typed.{fields-Rec, element-Arr}
use Rattle.uc_terms.specs.Tables.{WellTyped}
use Rattle.uc_terms.specs.Values.{value, values_at}
use Rattle.uc_terms.specs.Subterms.{IsSubterm, IsBelow, itself}
use Rattle.uc_terms.proofs.Fitting.{value-fits}
use Rattle.uc_terms.proofs.Grown.{type-valid}
use Rattle.uc_simplify_steps.specs.Steps.{IsKnown, Replaces, IsApplied, IsConstant, Differ}
use Rattle.uc_simplify_steps.proofs.Steps.{plain_replaces}
use Rattle.uc_simplify_steps.proofs.Alike.{of_arrays, scalar-itself, stores-same}

-- a part by its place
listed : (parts : List ℕ) (place p : ℕ) → slice_get parts place ≡ Some p → Contains parts p
listed [] place p e = cc
listed (q ∷ ps) zero p e = let s : q ≡ p = cc in (0, omega arith, s)
listed (q ∷ ps) (suc k) p e = let c = listed ps k p e in (suc c.0, omega (arith, c.1), c.2)

value_placed : (nodes : List Node) (m : Model) (parts : List ℕ) (place p : ℕ) → slice_get parts place ≡ Some p → slice_index_or (values_at m nodes parts) place nothing ≡ value m nodes p
value_placed nodes m [] place p e = cc
value_placed nodes m (q ∷ ps) zero p e = let s : q ≡ p = cc in ap (value m nodes) s
value_placed nodes m (q ∷ ps) (suc k) p e = value_placed nodes m ps k p e

type_placed : (nodes : List Node) (parts : List ℕ) (place p : ℕ) → slice_get parts place ≡ Some p → part_type (types_at nodes parts) place ≡ type_at nodes p
type_placed nodes [] place p e = cc
type_placed nodes (q ∷ ps) zero p e = let s : q ≡ p = cc in ap (type_at nodes) s
type_placed nodes (q ∷ ps) (suc k) p e = type_placed nodes ps k p e

pub field_known : (nodes : List Node) (place a p : ℕ) (ty : Ty) (parts : List ℕ) → IsApplied nodes a (MkRec ty) parts → slice_get parts place ≡ Some p → IsKnown nodes p (GetField place) (a ∷ [])
field_known nodes place a p ty parts x e =
    let c = listed parts place p e in
    let fields = x.suits.0 in
    record {
      there = All-contains (λ q. q < length nodes) parts p x.there c;
      same = λ m. sym (ap (λ v. field_of v place) (x.same m) ∙ ap (λ vs. slice_index_or vs place nothing) (parts-Rec (values_at m nodes parts)) ∙ value_placed nodes m parts place p e);
      ty = sym (ap (λ t. part_type (field_types (fields_of t)) place) (x.ty ∙ x.suits.1) ∙ ap (λ fs. part_type (field_types fs) place) (fields-Rec fields) ∙ ap (λ ts. part_type ts place) (sym x.suits.2) ∙ type_placed nodes parts place p e);
      below = record { root = a; listed = (0, omega arith, refl); below = All-contains (IsSubterm nodes a) parts p x.below c };
    }

-- an array that stores an element, by its parts
record Storing (nodes : List Node) (t a i x : ℕ) : Type 0 where
  array_there : a < length nodes
  index_there : i < length nodes
  element_there : x < length nodes
  index : Ty
  element : Ty
  array_type : type_at nodes a ≡ Array index element
  index_type : type_at nodes i ≡ index
  element_type : type_at nodes x ≡ element
  own : type_at nodes t ≡ Array index element
  array_below : IsSubterm nodes t a
  element_below : IsSubterm nodes t x
  same : (m : Model) → value m nodes t ≡ store (value m nodes a) (value m nodes i) (value m nodes x)

three_types : (s t u v w : Ty) → s ∷ t ∷ u ∷ [] ≡ Array v w ∷ v ∷ w ∷ [] → (s ≡ Array v w) × (t ≡ v) × (u ≡ w)
three_types s t u v w e = let x : s ≡ Array v w = cc in let y : t ≡ v = cc in let z : u ≡ w = cc in (x, y, z)

storing : (nodes : List Node) (t a i x : ℕ) → IsApplied nodes t Store (a ∷ i ∷ x ∷ []) → Storing nodes t a i x
storing nodes t a i x y =
    let types = three_types (type_at nodes a) (type_at nodes i) (type_at nodes x) y.suits.0 y.suits.1 y.suits.2 in
    let later = All-tail (λ k. k < length nodes) a (i ∷ x ∷ []) y.there in
    let last = All-tail (λ k. k < length nodes) i (x ∷ []) later in
    record {
      array_there = All-head (λ k. k < length nodes) a (i ∷ x ∷ []) y.there;
      index_there = All-head (λ k. k < length nodes) i (x ∷ []) later;
      element_there = All-head (λ k. k < length nodes) x [] last;
      index = y.suits.0;
      element = y.suits.1;
      array_type = types.0;
      index_type = types.1;
      element_type = types.2;
      own = y.ty ∙ types.0;
      array_below = All-head (IsSubterm nodes t) a (i ∷ x ∷ []) y.below;
      element_below = All-head (IsSubterm nodes t) x [] (All-tail (IsSubterm nodes t) i (x ∷ []) (All-tail (IsSubterm nodes t) a (i ∷ x ∷ []) y.below));
      same = y.same;
    }

-- what is held after a store
held : (nodes : List Node) (m : Model) (t a i x j : ℕ) → WellTyped nodes → (s : Storing nodes t a i x) → at (value m nodes t) (value m nodes j) ≡ cond (same_scalar (value m nodes i) (value m nodes j)) (value m nodes x) (at (value m nodes a) (value m nodes j))
held nodes m t a i x j w s =
    let r = IsArray-fits s.index s.element (value m nodes a) (subst (λ ty. IsTrue (fits ty (value m nodes a))) s.array_type (value-fits m nodes a w s.array_there)) in
    ap (λ v. at v (value m nodes j)) (s.same m)
    ∙ ap (λ v. at (store v (value m nodes i) (value m nodes x)) (value m nodes j)) r.is
    ∙ at-store r.default r.rows (value m nodes i) (value m nodes x) (value m nodes j)
    ∙ ap (λ v. cond (same_scalar (value m nodes i) (value m nodes j)) (value m nodes x) (at v (value m nodes j))) (sym r.is)

pub stored_known : (nodes : List Node) (t a i x j : ℕ) → WellTyped nodes → IsApplied nodes t Store (a ∷ i ∷ x ∷ []) → i ≡ j → j < length nodes → IsKnown nodes x Select (t ∷ j ∷ [])
stored_known nodes t a i x j w y e h =
    let s = storing nodes t a i x y in
    let array = of_arrays s.index s.element (subst (λ ty. IsTrue (is_valid ty)) s.array_type (type-valid nodes a w s.array_there)) in
    let own : type_at nodes j ≡ s.index = ap (type_at nodes) (sym e) ∙ s.index_type in
    record {
      there = s.element_there;
      same = λ m.
          let same = ap (λ n. same_scalar (value m nodes n) (value m nodes j)) e ∙ scalar-itself s.index (value m nodes j) array.index_valid array.scalar (subst (λ ty. IsTrue (fits ty (value m nodes j))) own (value-fits m nodes j w h)) in
          sym (held nodes m t a i x j w s ∙ ap (λ b. cond b (value m nodes x) (at (value m nodes a) (value m nodes j))) same);
      ty = s.element_type ∙ sym (ap element_of s.own ∙ element-Arr s.index s.element);
      below = record { root = t; listed = (0, omega arith, refl); below = s.element_below };
    }

pub passed_replaces : (nodes : List Node) (t a i x j : ℕ) (own : List ℕ) → WellTyped nodes → IsApplied nodes t Store (a ∷ i ∷ x ∷ []) → j < length nodes → Suits Select (type_at nodes t ∷ type_at nodes j ∷ []) → Differ nodes i j → own ≡ a ∷ j ∷ []
    → Replaces nodes Select own Select (t ∷ j ∷ [])
passed_replaces nodes t a i x j own w y h suits d q =
    let s = storing nodes t a i x y in
    let types : type_at nodes a ∷ type_at nodes j ∷ [] ≡ type_at nodes t ∷ type_at nodes j ∷ [] = λ k. (s.array_type ∙ sym s.own) k ∷ type_at nodes j ∷ [] in
    subst (λ ps. Replaces nodes Select ps Select (t ∷ j ∷ [])) (sym q)
    (plain_replaces nodes Select Select (a ∷ j ∷ []) (t ∷ j ∷ []) tt
    (All-cons (λ p. p < length nodes) a (j ∷ []) s.array_there (All-cons (λ p. p < length nodes) j [] h (All-nil (λ p. p < length nodes))))
    (subst (Suits Select) (sym types) suits)
    (λ m. sym (held nodes m t a i x j w s ∙ ap (λ b. cond b (value m nodes x) (at (value m nodes a) (value m nodes j))) (d m)))
    (ap element_of (s.array_type ∙ sym s.own))
    (All-cons (IsBelow nodes (t ∷ j ∷ [])) a (j ∷ []) (record { root = t; listed = (0, omega arith, refl); below = s.array_below })
    (All-cons (IsBelow nodes (t ∷ j ∷ [])) j [] (record { root = j; listed = (1, omega arith, refl); below = itself }) (All-nil (IsBelow nodes (t ∷ j ∷ []))))))

pub constants_differ : (nodes : List Node) (a b : ℕ) (v w : Value) → IsConstant nodes a v → IsConstant nodes b w → same_scalar v w ≡ false → Differ nodes a b
constants_differ nodes a b v w x y e m = (λ i. same_scalar (x.same m i) (y.same m i)) ∙ e

-- two arrays that store at one index of one array are equal where what they store is
pub stores_replace : (nodes : List Node) (t u a b i j x y : ℕ) (own : List ℕ) → WellTyped nodes → IsApplied nodes t Store (a ∷ i ∷ x ∷ []) → IsApplied nodes u Store (b ∷ j ∷ y ∷ []) → a ≡ b → i ≡ j → own ≡ x ∷ y ∷ [] → Replaces nodes Equal own Equal (t ∷ u ∷ [])
stores_replace nodes t u a b i j x y own w p q e f o =
    let s = storing nodes t a i x p in
    let r = storing nodes u a i y (subst (λ k. IsApplied nodes u Store (a ∷ k ∷ y ∷ [])) (sym f) (subst (λ k. IsApplied nodes u Store (k ∷ j ∷ y ∷ [])) (sym e) q)) in
    let one : s.element ≡ r.element = sym (element-Arr s.index s.element) ∙ ap element_of (sym s.array_type ∙ r.array_type) ∙ element-Arr r.index r.element in
    let other : type_at nodes y ≡ s.element = r.element_type ∙ sym one in
    let valid = subst (λ ty. IsTrue (is_valid ty)) s.array_type (type-valid nodes a w s.array_there) in
    let fit : (m : Model) (k : ℕ) (ty : Ty) → k < length nodes → type_at nodes k ≡ ty → IsTrue (fits ty (value m nodes k)) = λ m k ty h g. subst (λ ty. IsTrue (fits ty (value m nodes k))) g (value-fits m nodes k w h) in
    let types : type_at nodes x ∷ type_at nodes y ∷ [] ≡ s.element ∷ s.element ∷ [] = λ k. s.element_type k ∷ other k ∷ [] in
    subst (λ ps. Replaces nodes Equal ps Equal (t ∷ u ∷ [])) (sym o)
    (plain_replaces nodes Equal Equal (x ∷ y ∷ []) (t ∷ u ∷ []) tt
    (All-cons (λ p. p < length nodes) x (y ∷ []) s.element_there (All-cons (λ p. p < length nodes) y [] r.element_there (All-nil (λ p. p < length nodes))))
    (s.element, types)
    (λ m.
    let alike = stores-same s.index s.element (value m nodes a) (value m nodes i) (value m nodes x) (value m nodes y) valid (fit m a (Array s.index s.element) s.array_there s.array_type) (fit m i s.index s.index_there s.index_type)
    (fit m x s.element s.element_there s.element_type) (fit m y s.element r.element_there other) in
    ap Holds (ap (λ ty. same ty (value m nodes x) (value m nodes y)) s.element_type ∙ sym alike ∙ (λ k. same (sym s.own k) (sym (s.same m) k) (sym (r.same m) k))))
    refl
    (All-cons (IsBelow nodes (t ∷ u ∷ [])) x (y ∷ []) (record { root = t; listed = (0, omega arith, refl); below = s.element_below })
    (All-cons (IsBelow nodes (t ∷ u ∷ [])) y [] (record { root = u; listed = (1, omega arith, refl); below = r.element_below }) (All-nil (IsBelow nodes (t ∷ u ∷ []))))))
