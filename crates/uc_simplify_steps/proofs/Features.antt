-- Subterms, and what they bring, where a table grows and where a term is made.
use Rattle.std.specs.Prelude.{◌≡◌, ◌⊎◌, ℕ, ◌<◌, ◌≤◌, List, ◌++◌, length, slice_get, Option, Some, None, All, Contains}
use Rattle.std.specs.Option.{option_map}
use Rattle.std.proofs.Common.{refl, sym, ap, ◌∙◌, arith, subst, inl, inr}
use Rattle.std.proofs.lemmas.List.Elements.{All-contains}
use Rattle.uc_values.specs.declared.ty.Ty.{Ty}
use Rattle.uc_ops.specs.declared.op.Op.{Op}
use Rattle.uc_ops.specs.declared.op.Op.TheVariants.{Symbol, App}
use Rattle.uc_ops.specs.declared.node.Node.{Node}
use Rattle.uc_ops.specs.Typing.{type_of, types_at}
use Rattle.uc_ops.proofs.Lists.{at_place}
use Rattle.uc_terms.specs.Tables.{WellTyped, Makes, HasOp, parts_at, parts_in, node_of}
use Rattle.uc_terms.specs.Subterms.{IsSubterm, itself, deeper, IsBelow, EvenlyTyped}
use Rattle.uc_terms.proofs.Grown.{slice_get-front, types-keep, parts-node}
use Rattle.uc_simplify_steps.specs.Features.{Feature, symbol, function, Shows, Bears, Brings, OneBrings, BringsNoMore}

-- the parts of a term that is there stand before it
pub part_before : (nodes : List Node) (k p : ℕ) → WellTyped nodes → k < length nodes → Contains (parts_at nodes k) p → p < k
part_before nodes k p w h c =
    let r = at_place nodes k h in
    All-contains (λ i. i < k) r.0.parts p (w k r.0 r.1).before (subst (λ ps. Contains ps p) (parts-node nodes k r.0 r.1) c)

pub sub-below : (nodes : List Node) (t : ℕ) → WellTyped nodes → t < length nodes → (k : ℕ) → IsSubterm nodes t k → k ≤ t
sub-below nodes t w h k itself = omega arith
sub-below nodes t w h k (deeper j p s c) =
    let below = sub-below nodes t w h j s in
    let here = part_before nodes j k w (omega (arith, below)) c in
    omega (arith, below, here)

pub sub-trans : (nodes : List Node) (t q : ℕ) → IsSubterm nodes t q → (k : ℕ) → IsSubterm nodes q k → IsSubterm nodes t k
sub-trans nodes t q s k itself = s
sub-trans nodes t q s k (deeper j p d c) = deeper j k (sub-trans nodes t q s j d) c

pub parts-keep : (old more : List Node) (k : ℕ) → k < length old → parts_at (old ++ more) k ≡ parts_at old k
unfolding parts_at
parts-keep old more k h = ap parts_in (slice_get-front old more k h)

-- the subterms of a term stay the same when the table grows
pub sub-keeps : (old more : List Node) (t : ℕ) → WellTyped old → t < length old → (k : ℕ) → IsSubterm (old ++ more) t k → IsSubterm old t k
sub-keeps old more t w h k itself = itself
sub-keeps old more t w h k (deeper j p s c) =
    let front = sub-keeps old more t w h j s in
    let below = sub-below old t w h j front in
    deeper j k front (subst (λ ps. Contains ps k) (parts-keep old more j (omega (arith, below))) c)

pub sub-grows : (old more : List Node) (t : ℕ) → WellTyped old → t < length old → (k : ℕ) → IsSubterm old t k → IsSubterm (old ++ more) t k
sub-grows old more t w h k itself = itself
sub-grows old more t w h k (deeper j p s c) =
    let below = sub-below old t w h j s in
    deeper j k (sub-grows old more t w h j s) (subst (λ ps. Contains ps k) (sym (parts-keep old more j (omega (arith, below)))) c)

pub bears-keeps : (old more : List Node) (k : ℕ) (f : Feature) → WellTyped old → k < length old → Bears (old ++ more) k f → Bears old k f
bears-keeps old more k f w h b =
    let there = sym (slice_get-front old more k h) ∙ b.there in
    let types = types-keep old more k b.node.parts (omega arith) (w k b.node there).before in
    record { node = b.node; there = there; shows = subst (λ ts. Shows b.node.op ts b.node.ty f) types b.shows }

pub bears-grows : (old more : List Node) (k : ℕ) (f : Feature) → WellTyped old → k < length old → Bears old k f → Bears (old ++ more) k f
bears-grows old more k f w h b =
    let types = types-keep old more k b.node.parts (omega arith) (w k b.node b.there).before in
    record { node = b.node; there = slice_get-front old more k h ∙ b.there; shows = subst (λ ts. Shows b.node.op ts b.node.ty f) (sym types) b.shows }

-- what a term brings stays the same when the table grows
pub brings-keeps : (old more : List Node) (t : ℕ) (f : Feature) → WellTyped old → t < length old → Brings (old ++ more) t f → Brings old t f
brings-keeps old more t f w h b =
    let s = sub-keeps old more t w h b.place b.below in
    record { place = b.place; below = s; bears = bears-keeps old more b.place f w (omega (arith, sub-below old t w h b.place s, h)) b.bears }

pub brings-grows : (old more : List Node) (t : ℕ) (f : Feature) → WellTyped old → t < length old → Brings old t f → Brings (old ++ more) t f
brings-grows old more t f w h b =
    record {
      place = b.place;
      below = sub-grows old more t w h b.place b.below;
      bears = bears-grows old more b.place f w (omega (arith, sub-below old t w h b.place b.below, h)) b.bears;
    }

-- what a subterm brings the term brings
pub brings-below : (nodes : List Node) (t q : ℕ) (f : Feature) → IsSubterm nodes t q → Brings nodes q f → Brings nodes t f
brings-below nodes t q f s b = record { place = b.place; below = sub-trans nodes t q s b.place b.below; bears = b.bears }

-- a subterm of a made term is that term or below one of the parts
sub-made : (old new : List Node) (t : ℕ) (op : Op) (parts : List ℕ) → WellTyped old → Makes old new t op parts → All (λ p. p < length old) parts
    → (k : ℕ) → IsSubterm new t k → (k ≡ t) ⊎ IsBelow old parts k
sub-made old new t op parts w a b k itself = inl refl
sub-made old new t op parts w a b k (deeper j p s c) =
    elim (sub-made old new t op parts w a b j s) [
      | inl e ↦ inr (record { root = k; listed = subst (λ ps. Contains ps k) (ap (parts_at new) e ∙ parts-node new t (node_of old op parts) a.node) c; below = itself })
      | inr r ↦
          let root = All-contains (λ i. i < length old) parts r.root b r.listed in
          let low = sub-below old r.root w root j r.below in
          let same = ap (λ ns. parts_at ns j) a.grown.1 ∙ parts-keep old a.grown.0 j (omega (arith, low, root)) in
          inr (record { root = r.root; listed = r.listed; below = deeper j k r.below (subst (λ ps. Contains ps k) same c) })
    ]

-- what a made term brings is shown by its operation or brought by one of its parts
pub brings-made : (old new : List Node) (t : ℕ) (op : Op) (parts : List ℕ) (f : Feature) → WellTyped old → Makes old new t op parts → All (λ p. p < length old) parts
    → Brings new t f → Shows op (types_at old parts) (type_of op (types_at old parts)) f ⊎ OneBrings old parts f
brings-made old new t op parts f w a b g =
    elim (sub-made old new t op parts w a b g.place g.below) [
      | inl e ↦
          let n : Some g.bears.node ≡ Some (node_of old op parts) = sym g.bears.there ∙ ap (slice_get new) e ∙ a.node in
          let same : g.bears.node ≡ node_of old op parts = cc in
          let types = ap (λ ns. types_at ns parts) a.grown.1 ∙ types-keep old a.grown.0 (length old) parts (omega arith) b in
          inl (subst (λ ts. Shows op ts (type_of op (types_at old parts)) f) types (subst (λ (x : Node). Shows x.op (types_at new x.parts) x.ty f) same g.bears.shows))
      | inr r ↦
          let root = All-contains (λ i. i < length old) parts r.root b r.listed in
          let low = sub-below old r.root w root g.place r.below in
          let bears = bears-keeps old a.grown.0 g.place f w (omega (arith, low, root)) (subst (λ ns. Bears ns g.place f) a.grown.1 g.bears) in
          inr (record { one = r.root; listed = r.listed; brings = record { place = g.place; below = r.below; bears = bears } })
    ]

-- the node of a term that has an operation
node-op : (nodes : List Node) (k : ℕ) (op : Op) (o : Option Node) → slice_get nodes k ≡ o → option_map (λ n. n.op) o ≡ Some op → (n : Node) × (slice_get nodes k ≡ Some n) × (n.op ≡ op)
node-op nodes k op None e h = cc
node-op nodes k op (Some n) e h = let s : n.op ≡ op = cc in (n, e, s)

pub node_of_op : (nodes : List Node) (k : ℕ) (op : Op) → HasOp nodes k op → (n : Node) × (slice_get nodes k ≡ Some n) × (n.op ≡ op)
node_of_op nodes k op h = node-op nodes k op (slice_get nodes k) refl h

pub has-op : (nodes : List Node) (k : ℕ) (n : Node) → slice_get nodes k ≡ Some n → HasOp nodes k n.op
has-op nodes k n e = ap (option_map (λ n. n.op)) e

brings-symbol : (nodes : List Node) (t k number : ℕ) (ty : Ty) → IsSubterm nodes t k → HasOp nodes k (Symbol number ty) → Brings nodes t (symbol number ty)
brings-symbol nodes t k number ty s h =
    let r = node_of_op nodes k (Symbol number ty) h in
    record { place = k; below = s; bears = record { node = r.0; there = r.1; shows = r.2 } }

brings-function : (nodes : List Node) (t k number : ℕ) (ty : Ty) → IsSubterm nodes t k → HasOp nodes k (App number ty) → Brings nodes t (function number (types_at nodes (parts_at nodes k)) ty)
brings-function nodes t k number ty s h =
    let r = node_of_op nodes k (App number ty) h in
    record { place = k; below = s; bears = record { node = r.0; there = r.1; shows = (r.2, ap (types_at nodes) (sym (parts-node nodes k r.0 r.1))) } }

-- a term that brings no more than an evenly typed one is evenly typed
pub evenly_kept : (new old : List Node) (r t : ℕ) → BringsNoMore new r old t → EvenlyTyped old t → EvenlyTyped new r
evenly_kept new old r t b e = record {
  symbols = λ j k number u v s d h g.
      let x = b (symbol number u) (brings-symbol new r j number u s h) in
      let y = b (symbol number v) (brings-symbol new r k number v d g) in
      e.symbols x.place y.place number u v x.below y.below (has-op old x.place x.bears.node x.bears.there ∙ ap Some x.bears.shows) (has-op old y.place y.bears.node y.bears.there ∙ ap Some y.bears.shows);
  functions = λ j k number u v s d h g.
      let x = b (function number (types_at new (parts_at new j)) u) (brings-function new r j number u s h) in
      let y = b (function number (types_at new (parts_at new k)) v) (brings-function new r k number v d g) in
      let z = e.functions x.place y.place number u v x.below y.below (has-op old x.place x.bears.node x.bears.there ∙ ap Some x.bears.shows.0) (has-op old y.place y.bears.node y.bears.there ∙ ap Some y.bears.shows.0) in
      let xs = ap (types_at old) (parts-node old x.place x.bears.node x.bears.there) ∙ x.bears.shows.1 in
      let ys = ap (types_at old) (parts-node old y.place y.bears.node y.bears.there) ∙ y.bears.shows.1 in
      (z.0, sym xs ∙ z.1 ∙ ys);
}
