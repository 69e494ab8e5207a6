-- What is made of booleans and bit-vectors.
use Rattle.std.specs.Prelude.{◌≡◌, ℕ, ◌<◌, true, List, ◌++◌, length, All, Contains}
use Rattle.std.proofs.Common.{refl, sym, ap, ◌∙◌, arith, subst, ◌⊎◌, inl, inr, length-append}
use Rattle.std.proofs.lemmas.List.Elements.{All-contains}
use Rattle.uc_ops.specs.declared.op.Op.{Op}
use Rattle.uc_ops.specs.declared.node.Node.{Node}
use Rattle.uc_ops.specs.Typing.{type_at, types_at, type_of}
use Rattle.uc_ops.proofs.Lists.{at_place}
use Rattle.uc_terms.specs.Tables.{WellTyped, Makes, parts_at, parts_in, node_of}
use Rattle.uc_terms.specs.Subterms.{IsSubterm, itself, deeper}
use Rattle.uc_terms.proofs.Grown.{slice_get-front, type-keeps, parts-node}
use Rattle.uc_terms.proofs.Sharing.{made-within, made-type}
use Rattle.uc_blast.specs.Words.{is_bits}
use Rattle.uc_solve_rows.specs.Low.{IsLow, KeepsLow}

parts-keep : (old more : List Node) (j : ℕ) → j < length old → parts_at (old ++ more) j ≡ parts_at old j
unfolding parts_at
parts-keep old more j h = ap parts_in (slice_get-front old more j h)

record WasBelow (old : List Node) (t k : ℕ) : Type 0 where
  below : IsSubterm old t k
  there : k < length old

was-below : (old more : List Node) (t : ℕ) → WellTyped old → t < length old → (k : ℕ) → IsSubterm (old ++ more) t k → WasBelow old t k
was-below old more t w l k itself = record { below = itself; there = l }
was-below old more t w l k (deeper j p s c) =
    let r = was-below old more t w l j s in
    let d : Contains (parts_at old j) p = subst (λ ps. Contains ps p) (parts-keep old more j r.there) c in
    let node = at_place old j r.there in
    let small : p < j = All-contains (λ q. q < j) node.0.parts p (w j node.0 node.1).before (subst (λ ps. Contains ps p) (parts-node old j node.0 node.1) d) in
    record { below = deeper j p r.below d; there = omega (arith, small, r.there) }

record IsBelowPart (nodes : List Node) (t k : ℕ) : Type 0 where
  part : ℕ
  listed : Contains (parts_at nodes t) part
  below : IsSubterm nodes part k

split : (nodes : List Node) (t k : ℕ) → IsSubterm nodes t k → (k ≡ t) ⊎ IsBelowPart nodes t k
split nodes t k itself = inl refl
split nodes t k (deeper j p s c) =
    elim (split nodes t j s) [
      | inl x ↦ inr (record { part = p; listed = subst (λ i. Contains (parts_at nodes i) p) x c; below = itself })
      | inr x ↦ inr (record { part = x.part; listed = x.listed; below = deeper j p x.below c })
    ]

low-more : (old more : List Node) → WellTyped old → KeepsLow old (old ++ more)
low-more old more w t h = record {
  there = omega (arith, h.there, length-append old more);
  bits = λ k s. let r = was-below old more t w h.there k s in ap is_bits (type-keeps old more k r.there) ∙ h.bits k r.below;
}

pub kept-low : (old new : List Node) (t : ℕ) (op : Op) (parts : List ℕ) → WellTyped old → Makes old new t op parts → KeepsLow old new
kept-low old new t op parts w m p h = subst (λ ns. IsLow ns p) (sym m.grown.1) (low-more old m.grown.0 w p h)

pub made-low : (old new : List Node) (t : ℕ) (op : Op) (parts : List ℕ) → WellTyped old → Makes old new t op parts → All (IsLow old) parts → is_bits (type_of op (types_at old parts)) ≡ true → IsLow new t
made-low old new t op parts w m h b = record {
  there = made-within old new t op parts m;
  bits = λ k s. elim (split new t k s) [
    | inl x ↦ ap (λ i. is_bits (type_at new i)) x ∙ ap is_bits (made-type old new t op parts m) ∙ b
    | inr x ↦
        let c : Contains parts x.part = subst (λ ps. Contains ps x.part) (parts-node new t (node_of old op parts) m.node) x.listed in
        (kept-low old new t op parts w m x.part (All-contains (IsLow old) parts x.part h c)).bits k x.below
  ];
}

pub parts-there : (nodes : List Node) (parts : List ℕ) → All (IsLow nodes) parts → All (λ p. p < length nodes) parts
parts-there nodes parts h i d l = (h i d l).there
