-- What a table keeps when it grows by a node.
use Rattle.std.specs.Prelude.{◌≡◌, ℕ, ◌<◌, ◌≤◌, List, [], ◌∷◌, ◌++◌, length, slice_get, Some, All}
use Rattle.std.proofs.Common.{refl, sym, ap, ◌∙◌, arith, subst, ◌⊎◌, inl, inr, zero, suc}
use Rattle.std.proofs.lemmas.List.Elements.{All-weaker, All-map}
use Rattle.uc_ops.specs.declared.op.Op.{Op}
use Rattle.uc_ops.specs.declared.node.Node.{Node}
use Rattle.uc_ops.specs.Typing.{Suits, Valid, AllValid, type_of, type_in, type_at, types_at}
use Rattle.uc_ops.proofs.Lists.{same_map, at_place}
use Rattle.uc_ops.proofs.Typed.{type_of-valid}
use Rattle.uc_terms.specs.Tables.{IsFine, WellTyped, node_of, parts_at, parts_in}

pub slice_get-front : {A : Type 0} (xs ys : List A) (k : ℕ) → k < length xs → slice_get (xs ++ ys) k ≡ slice_get xs k
slice_get-front [] ys k h = absurd (omega arith)
slice_get-front (x ∷ xs) ys zero h = refl
slice_get-front (x ∷ xs) ys (suc k) h = slice_get-front xs ys k (omega arith)

pub slice_get-last : {A : Type 0} (xs : List A) (x : A) → slice_get (xs ++ x ∷ []) (length xs) ≡ Some x
slice_get-last [] x = refl
slice_get-last (y ∷ xs) x = slice_get-last xs x

pub slice_get-push : {A : Type 0} (xs : List A) (x y : A) (k : ℕ) → slice_get (xs ++ x ∷ []) k ≡ Some y → ((k < length xs) × (slice_get xs k ≡ Some y)) ⊎ ((k ≡ length xs) × (x ≡ y))
slice_get-push [] x y zero h = inr (refl, cc)
slice_get-push [] x y (suc k) h = cc
slice_get-push (z ∷ xs) x y zero h = inl (omega arith, h)
slice_get-push (z ∷ xs) x y (suc k) h = elim (slice_get-push xs x y k h) [ inl r ↦ inl (omega (arith, r.0), r.1) | inr r ↦ inr (omega (arith, r.0), r.1) ]

-- a term keeps its type when the table grows
pub type-keeps : (nodes more : List Node) (t : ℕ) → t < length nodes → type_at (nodes ++ more) t ≡ type_at nodes t
unfolding type_at
type-keeps nodes more t h = ap type_in (slice_get-front nodes more t h)

pub types-keep : (nodes more : List Node) (high : ℕ) (ts : List ℕ) → high ≤ length nodes → All (λ t. t < high) ts → types_at (nodes ++ more) ts ≡ types_at nodes ts
types-keep nodes more high ts h b = same_map (type_at (nodes ++ more)) (type_at nodes) (λ t. t < high) ts (λ t l. type-keeps nodes more t (omega (arith, l))) b

IsFine-keeps : (nodes more : List Node) (place : ℕ) (node : Node) → place ≤ length nodes → IsFine nodes place node → IsFine (nodes ++ more) place node
IsFine-keeps nodes more place node h f =
    let e = types-keep nodes more place node.parts h f.before in
    record { before = f.before; suits = subst (Suits node.op) (sym e) f.suits; typed = f.typed ∙ ap (type_of node.op) (sym e); valid = f.valid }

-- one more fine node
WellTyped-push : (nodes : List Node) (node : Node) → WellTyped nodes → IsFine nodes (length nodes) node → WellTyped (nodes ++ node ∷ [])
WellTyped-push nodes node w f place n h =
    elim (slice_get-push nodes node n place h) [
      | inl r ↦ IsFine-keeps nodes (node ∷ []) place n (omega (arith, r.0)) (w place n r.1)
      | inr r ↦
          let here : IsFine (nodes ++ node ∷ []) (length nodes) node = IsFine-keeps nodes (node ∷ []) (length nodes) node (omega arith) f in
          subst (λ p. IsFine (nodes ++ node ∷ []) p n) (sym r.0) (subst (λ x. IsFine (nodes ++ node ∷ []) (length nodes) x) r.1 here)
    ]

-- the type of every term of a table is valid
pub type-valid : (nodes : List Node) (t : ℕ) → WellTyped nodes → t < length nodes → Valid (type_at nodes t)
unfolding type_at
type-valid nodes t w h =
    let r = at_place nodes t h in
    subst (λ o. Valid (type_in o)) (sym r.1) (w t r.0 r.1).valid

pub types-valid : (nodes : List Node) (ts : List ℕ) → WellTyped nodes → All (λ t. t < length nodes) ts → AllValid (types_at nodes ts)
types-valid nodes ts w h = All-map Valid (type_at nodes) ts (All-weaker (λ t. t < length nodes) (λ t. Valid (type_at nodes t)) (λ t l. type-valid nodes t w l) ts h)

-- the node of an operation on parts that suit it may be added
pub added-fine : (nodes : List Node) (op : Op) (parts : List ℕ) → WellTyped nodes → All (λ p. p < length nodes) parts → Suits op (types_at nodes parts) → WellTyped (nodes ++ node_of nodes op parts ∷ [])
added-fine nodes op parts w b s =
    WellTyped-push nodes (node_of nodes op parts) w (record { before = b; suits = s; typed = refl; valid = type_of-valid op (types_at nodes parts) s (types-valid nodes parts w b) })

pub parts-node : (nodes : List Node) (place : ℕ) (node : Node) → slice_get nodes place ≡ Some node → parts_at nodes place ≡ node.parts
unfolding parts_at
parts-node nodes place node h = ap parts_in h

pub type-node : (nodes : List Node) (place : ℕ) (node : Node) → slice_get nodes place ≡ Some node → type_at nodes place ≡ node.ty
unfolding type_at
type-node nodes place node h = ap type_in h
