-- The terms of each form of expression.
use Rattle.std.proofs.Common.{◌≡◌, ℕ, ◌+◌, ◌<◌, ◌≤◌, List, [], ◌∷◌, ◌++◌, length, map, Option, Some, None, refl, sym, ap, ◌∙◌, subst, arith, slice_get, zero, suc, take, get_or}
use Rattle.std.specs.Prelude.{All, Contains}
use Rattle.std.specs.Option.{option_map}
use Rattle.std.proofs.lemmas.List.{take_more, map-append, take_all, length-map}
use Rattle.std.proofs.lemmas.List.Elements.{All-push}
use Rattle.std.proofs.lemmas.Option.{slice_get-map}
use Rattle.uc_values.specs.declared.ty.Ty.{Ty}
use Rattle.uc_values.specs.declared.value.Value.{Value}
use Rattle.uc_ops.specs.declared.model.Model.{Model}
use Rattle.uc_ops.specs.declared.node.Node.{Node}
use Rattle.uc_ops.specs.declared.op.Op.{Op}
use Rattle.uc_ops.specs.Typing.{Suits, type_at, types_at, part_type, type_or, type_of as result_type}
use Rattle.uc_ops.specs.Meaning.{part, apply}
use Rattle.uc_ops.proofs.Lists.{at_place, slice_get-within}
use Rattle.uc_terms.specs.Tables.{Makes, node_of}
use Rattle.uc_terms.specs.Values.{value, values_at}
use Rattle.uc_flat.specs.declared.expression.Expression.{Expression}
use Rattle.uc_flat.specs.declared.expression.Expression.TheOpen.Expression-F.{Apply as ApplyForm}
use Rattle.uc_flat.specs.declared.expression.Expression.TheViews.{roll-Expression}
use Rattle.uc_flat.specs.declared.expression.Expression.TheVariants.{Cell, Apply}
use Rattle.uc_flat.specs.declared.expression.Expression.TheFolds.{fold-roll-Expression}
use Rattle.uc_flat.specs.Reading.{type_of, value_of}
use Rattle.uc_flat.specs.Fine.{IsWithin, itself, IsTyped}
use Rattle.uc_flat.specs.Counts.{total}
use Rattle.uc_flat.proofs.Forms.{type_cell, type_apply, value_cell, value_apply}
use Rattle.uc_flat.proofs.Inside.{contains_at, part_within, typed_part}
use Rattle.uc_symstep.specs.Cost.{cost, cost_form, costs}
use Rattle.uc_symstep.specs.Growing.{IsTerm, AreTerms, AreCells}
use Rattle.uc_symstep.proofs.Grown.{grows_not, grows_on, grows_values, grows_types, all_grow, made_type}

-- the value of an expression in the cells of a table
abbrev pub Meaning : List Node → List Ty → List ℕ → Expression → Model → Value
Meaning nodes types cells e m = value_of m types (map (value m nodes) cells) e

abbrev pub Meanings : List Node → List Ty → List ℕ → List Expression → Model → List Value
Meanings nodes types cells es m = map (value_of m types (map (value m nodes) cells)) es

cell_at : (cells : List ℕ) (k t : ℕ) → slice_get cells k ≡ Some t → (f : ℕ → Value) → part (map f cells) k ≡ f t
cell_at [] k t h f = cc
cell_at (c ∷ cells) zero t h f = let e : c ≡ t = cc in ap f e
cell_at (c ∷ cells) (suc k) t h f = cell_at cells k t h f

cell_there : (high : ℕ) (cells : List ℕ) (k t : ℕ) → slice_get cells k ≡ Some t → All (λ c. c < high) cells → t < high
cell_there high cells k t h a =
    let l = slice_get-within cells k t h in
    subst (λ x. x < high) (got cells k t h) (a k t l)
  where
    got : (xs : List ℕ) (i x : ℕ) → slice_get xs i ≡ Some x → get_or xs i x ≡ x
    got [] i x e = refl
    got (y ∷ xs) zero x e = let f : y ≡ x = cc in f
    got (y ∷ xs) (suc i) x e = got xs i x e

pub cell_term : (nodes : List Node) (types : List Ty) (cells : List ℕ) (e : Expression) (k t : ℕ)
    → e ≡ Cell k → AreCells nodes types cells → slice_get cells k ≡ Some t → IsTerm nodes nodes t (type_of types e) (Meaning nodes types cells e)
cell_term nodes types cells e k t i c h = record {
  grown = grows_not nodes nodes refl;
  there = cell_there (length nodes) cells k t h c.there;
  typed =
      sym (ap (type_of types) i ∙ type_cell types k ∙ ap (λ ts. part_type ts k) (sym c.typed) ∙ ap type_or (slice_get-map (type_at nodes) cells k ∙ ap (option_map (type_at nodes)) h));
  means = λ m. sym (ap (value_of m types (map (value m nodes) cells)) i ∙ value_cell m types (map (value m nodes) cells) k ∙ cell_at cells k t h (value m nodes));
}

none_some : (x : ℕ) (o : Option ℕ) → o ≡ Some x → o ≡ None → ⊥
none_some x o h n = let e : Some x ≡ None = sym h ∙ n in cc

pub no_cell : (nodes : List Node) (types : List Ty) (cells : List ℕ) (e : Expression) (k : ℕ)
    → e ≡ Cell k → AreCells nodes types cells → slice_get cells k ≡ None → IsTyped types e → ⊥
no_cell nodes types cells e k i c h t =
    let l : k < length cells = omega (arith, t.cells k (subst (IsWithin e) i itself), length-map cells (type_at nodes), ap length c.typed) in
    let p = at_place cells k l in
    none_some p.0 (slice_get cells k) p.1 h

pub parts_typed : (types : List Ty) (e : Expression) (op : Op) (parts xs : List Expression) → e ≡ Apply op parts → xs ≡ parts → IsTyped types e → All (IsTyped types) xs
parts_typed types e op parts xs i j t k d l =
    let x = get_or xs k d in
    typed_part types e x (part_within e op parts x i (subst (λ ys. Contains ys x) j (contains_at xs k x l (same_default xs k d l)))) t
  where
    same_default : (ys : List Expression) (n : ℕ) (y : Expression) → n < length ys → get_or ys n y ≡ get_or ys n (get_or ys n y)
    same_default [] n y h = refl
    same_default (z ∷ ys) zero y h = refl
    same_default (z ∷ ys) (suc n) y h = same_default ys n y (omega (arith, h))

pub parts_none : (old : List Node) (types : List Ty) (cells : List ℕ) (parts : List Expression) → AreTerms old old [] (map (type_of types) (take 0 parts)) (Meanings old types cells (take 0 parts))
parts_none old types cells parts = record { grown = grows_not old old refl; there = λ k d l. absurd (omega (arith, l)); typed = refl; means = λ m. refl }

pub parts_more : (old now new : List Node) (types : List Ty) (cells : List ℕ) (parts : List Expression) (ts us : List ℕ) (k t : ℕ) (x : Expression)
    → AreCells old types cells → AreTerms old now ts (map (type_of types) (take k parts)) (Meanings old types cells (take k parts))
    → IsTerm now new t (type_of types x) (Meaning now types cells x)
    → k < length parts → x ≡ get_or parts k x → us ≡ ts ++ t ∷ []
    → AreTerms old new us (map (type_of types) (take (k + 1) parts)) (Meanings old types cells (take (k + 1) parts))
parts_more old now new types cells parts ts us k t x c a b l i j =
    let front : take (k + 1) parts ≡ take k parts ++ x ∷ [] = take_more parts k x l ∙ ap (λ y. take k parts ++ y ∷ []) (sym i) in
    record {
      grown = grows_on old now new a.grown b.grown;
      there = subst (All (λ u. u < length new)) (sym j) (All-push (λ u. u < length new) ts t (all_grow now new b.grown ts a.there) b.there);
      typed =
          ap (map (type_at new)) j ∙ map-append (type_at new) ts (t ∷ [])
          ∙ ap (λ tys. tys ++ type_at new t ∷ []) (grows_types now new b.grown ts a.there ∙ a.typed)
          ∙ ap (λ ty. map (type_of types) (take k parts) ++ ty ∷ []) b.typed
          ∙ sym (ap (map (type_of types)) front ∙ map-append (type_of types) (take k parts) (x ∷ []));
      means = λ m.
          let f = value_of m types (map (value m old) cells) in
          ap (map (value m new)) j ∙ map-append (value m new) ts (t ∷ [])
          ∙ ap (λ vs. vs ++ value m new t ∷ []) (grows_values now new b.grown m ts a.there ∙ a.means m)
          ∙ ap (λ v. map f (take k parts) ++ v ∷ []) (b.means m ∙ ap (λ vs. value_of m types vs x) (grows_values old now a.grown m cells c.there))
          ∙ sym (ap (map f) front ∙ map-append f (take k parts) (x ∷ []));
    }

pub parts_end : (old now : List Node) (types : List Ty) (cells : List ℕ) (parts : List Expression) (ts : List ℕ) (k : ℕ)
    → AreTerms old now ts (map (type_of types) (take k parts)) (Meanings old types cells (take k parts)) → length parts ≤ k
    → AreTerms old now ts (map (type_of types) parts) (Meanings old types cells parts)
parts_end old now types cells parts ts k a l = subst (λ xs. AreTerms old now ts (map (type_of types) xs) (Meanings old types cells xs)) (take_all k parts l) a

-- the parts of an operation suit it
pub parts_suit : (old mid : List Node) (types : List Ty) (cells : List ℕ) (e : Expression) (op o : Op) (parts xs : List Expression) (ts us : List ℕ)
    → e ≡ Apply op parts → xs ≡ parts → o ≡ op → us ≡ ts → IsTyped types e → AreTerms old mid ts (map (type_of types) xs) (Meanings old types cells xs)
    → Suits o (types_at mid us)
parts_suit old mid types cells e op o parts xs ts us i j p q t a =
    let s : Suits op (map (type_of types) parts) = t.parts op parts (subst (IsWithin e) i itself) in
    let types_are : map (type_of types) parts ≡ types_at mid us = sym (ap (map (type_of types)) j) ∙ sym a.typed ∙ ap (types_at mid) (sym q) in
    subst (λ y. Suits y (types_at mid us)) (sym p) (subst (Suits op) types_are s)

-- an operation on the terms of its parts
pub apply_term : (old mid new : List Node) (types : List Ty) (cells : List ℕ) (e : Expression) (op o : Op) (parts xs : List Expression) (ts us : List ℕ) (t : ℕ)
    → e ≡ Apply op parts → xs ≡ parts → o ≡ op → us ≡ ts → AreTerms old mid ts (map (type_of types) xs) (Meanings old types cells xs)
    → Makes mid new t o us → ((m : Model) → value m new t ≡ apply m o (types_at mid us) (values_at m mid us))
    → IsTerm old new t (type_of types e) (Meaning old types cells e)
apply_term old mid new types cells e op o parts xs ts us t i j p q a made v =
    let types_are : types_at mid us ≡ map (type_of types) parts = ap (types_at mid) q ∙ a.typed ∙ ap (map (type_of types)) j in
    record {
      grown = grows_on old mid new a.grown (record { more = made.grown.0; is = made.grown.1 });
      there = slice_get-within new t (node_of mid o us) made.node;
      typed =
          made_type mid new t o us made ∙ ap (λ y. result_type y (types_at mid us)) p ∙ ap (result_type op) types_are
          ∙ sym (type_apply types op parts) ∙ ap (type_of types) (sym i);
      means = λ m.
          let f = value_of m types (map (value m old) cells) in
          let values_are : values_at m mid us ≡ map f parts = ap (values_at m mid) q ∙ a.means m ∙ ap (map f) j in
          v m ∙ ap (λ y. apply m y (types_at mid us) (values_at m mid us)) p
          ∙ ap (λ tys. apply m op tys (values_at m mid us)) types_are
          ∙ ap (apply m op (map (type_of types) parts)) values_are
          ∙ sym (value_apply m types (map (value m old) cells) op parts)
          ∙ ap f (sym i);
    }

pub cost_apply : (op : Op) (parts : List Expression) → cost (Apply op parts) ≡ 1 + costs parts
unfolding cost roll-Expression denote.Hole.Carrier.roll
cost_apply op parts = fold-roll-Expression ℕ cost_form (ApplyForm op parts)

pub cost_at : (xs : List Expression) (k : ℕ) (x : Expression) → k < length xs → x ≡ get_or xs k x → cost x ≤ costs xs
unfolding total
cost_at [] k x l i = absurd (omega arith)
cost_at (y ∷ xs) zero x l i = omega (arith, ap cost i)
cost_at (y ∷ xs) (suc k) x l i = omega (arith, cost_at xs k x (omega (arith, l)) i)

pub item_typed : (types : List Ty) (xs : List Expression) (k : ℕ) (x : Expression) → k < length xs → x ≡ get_or xs k x → All (IsTyped types) xs → IsTyped types x
item_typed types xs k x l i a = subst (IsTyped types) (sym i) (a k x l)
