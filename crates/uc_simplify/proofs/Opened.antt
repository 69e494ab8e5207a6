-- Terms of integers, by their operation and their parts.
use Rattle.std.specs.Prelude.{◌≡◌, ℕ, ℤ, pos, ◌*ℤ◌, ◌<◌, List, [], ◌∷◌, length, slice_get, Option, Some, None, All, Contains}
use Rattle.std.specs.Option.{option_map}
use Rattle.std.proofs.Common.{refl, sym, ap, ◌∙◌, subst, arith, get_or}
use Rattle.std.proofs.lemmas.Int.{ints}
use Rattle.std.proofs.lemmas.List.Elements.{All-nil, All-cons, All-head, All-tail, All-weaker, All-contains_itself}
use Rattle.uc_values.specs.Values.{number_of}
use Rattle.uc_values.specs.declared.ty.Ty.{Ty}
use Rattle.uc_values.specs.declared.ty.Ty.TheVariants.{Int as Integer}
use Rattle.uc_values.specs.declared.value.Value.{Value}
use Rattle.uc_values.specs.declared.value.Value.TheVariants.{Int}
use Rattle.uc_ops.specs.declared.op.Op.{Op}
use Rattle.uc_ops.specs.declared.op.Op.TheVariants.{Const, Add, Scale}
use Rattle.uc_ops.specs.declared.node.Node.{Node}
use Rattle.uc_ops.specs.Typing.{Suits, type_at, types_at}
use Rattle.uc_ops.specs.Meaning.{apply}
use Rattle.uc_terms.specs.Tables.{WellTyped, HasOp, parts_at}
use Rattle.uc_terms.specs.Values.{values_at}
use Rattle.uc_terms.specs.Subterms.{IsSubterm, itself, deeper}
use Rattle.uc_terms.proofs.Grown.{parts-node}
use Rattle.uc_terms.proofs.Values.{value-node}
use Rattle.uc_simplify.specs.Forms.{IsValue, IsNumber, IsTimes, IsTotal, number_at}

-- the node of a term that has an operation
node-op : (nodes : List Node) (k : ℕ) (op : Op) (o : Option Node) → slice_get nodes k ≡ o → option_map (λ n. n.op) o ≡ Some op → (n : Node) × (slice_get nodes k ≡ Some n) × (n.op ≡ op)
node-op nodes k op None e h = cc
node-op nodes k op (Some n) e h = let s : n.op ≡ op = cc in (n, e, s)

node_of_op : (nodes : List Node) (k : ℕ) (op : Op) → HasOp nodes k op → (n : Node) × (slice_get nodes k ≡ Some n) × (n.op ≡ op)
node_of_op nodes k op h = node-op nodes k op (slice_get nodes k) refl h

pub value_found : (nodes : List Node) (t : ℕ) (ty : Ty) (v : Value) → WellTyped nodes → HasOp nodes t (Const ty v) → IsValue nodes t v
value_found nodes t ty v w h =
    let r = node_of_op nodes t (Const ty v) h in
    record { same = λ m. value-node m nodes t r.0 w r.1 ∙ ap (λ o. apply m o (types_at nodes r.0.parts) (values_at m nodes r.0.parts)) r.2 }

pub number_found : (nodes : List Node) (t : ℕ) (v : Value) (z : ℤ) → IsValue nodes t v → v ≡ Int z → IsNumber nodes t z
number_found nodes t v z c e m = c.same m ∙ e

one_type : (nodes : List Node) (ps : List ℕ) (p : ℕ) → ps ≡ p ∷ [] → types_at nodes ps ≡ Integer ∷ [] → type_at nodes p ≡ Integer
one_type nodes ps p e h = let g : type_at nodes p ∷ [] ≡ Integer ∷ [] = ap (types_at nodes) (sym e) ∙ h in cc

pub times_found : (nodes : List Node) (t p : ℕ) (k : ℤ) (parts : List ℕ) → WellTyped nodes → t < length nodes → HasOp nodes t (Scale k) → parts ≡ parts_at nodes t → p ∷ [] ≡ parts → IsTimes nodes t k p
times_found nodes t p k parts w h o e f =
    let r = node_of_op nodes t (Scale k) o in
    let fine = w t r.0 r.1 in
    let own : r.0.parts ≡ p ∷ [] = sym (parts-node nodes t r.0 r.1) ∙ sym e ∙ sym f in
    let before : p < t = All-head (λ q. q < t) p [] (subst (All (λ q. q < t)) own fine.before) in
    record {
      there = omega (arith, before, h);
      ty = one_type nodes r.0.parts p own (subst (λ op. Suits op (types_at nodes r.0.parts)) r.2 fine.suits);
      below = deeper t p itself (subst (λ ps. Contains ps p) (f ∙ e) (0, omega arith, refl));
      same = λ m. ap number_of (value-node m nodes t r.0 w r.1 ∙ ap (λ op. apply m op (types_at nodes r.0.parts) (values_at m nodes r.0.parts)) r.2 ∙ ap (λ ps. apply m (Scale k) (types_at nodes ps) (values_at m nodes ps)) own);
    }

once : (z : ℤ) → z ≡ pos 1 *ℤ z
once z = omega (arith, ints)

pub times_itself : (nodes : List Node) (t : ℕ) (k : ℤ) → t < length nodes → type_at nodes t ≡ Integer → k ≡ pos 1 → IsTimes nodes t k t
times_itself nodes t k h e f = record { there = h; ty = e; below = itself; same = λ m. once (number_at m nodes t) ∙ ap (λ z. z *ℤ number_at m nodes t) (sym f) }

pub typed_all : (nodes : List Node) (ts : List ℕ) → All (λ t. t ≡ Integer) (types_at nodes ts) → All (λ t. type_at nodes t ≡ Integer) ts
typed_all nodes [] h = All-nil (λ t. type_at nodes t ≡ Integer)
typed_all nodes (u ∷ us) h =
    All-cons (λ t. type_at nodes t ≡ Integer) u us (All-head (λ t. t ≡ Integer) (type_at nodes u) (types_at nodes us) h) (typed_all nodes us (All-tail (λ t. t ≡ Integer) (type_at nodes u) (types_at nodes us) h))

pub total_found : (nodes : List Node) (t : ℕ) (parts : List ℕ) → WellTyped nodes → t < length nodes → HasOp nodes t Add → parts ≡ parts_at nodes t → IsTotal nodes t parts
total_found nodes t parts w h o e =
    let r = node_of_op nodes t Add o in
    let fine = w t r.0 r.1 in
    let own : parts ≡ r.0.parts = e ∙ parts-node nodes t r.0 r.1 in
    subst (IsTotal nodes t) (sym own) (record {
      there = All-weaker (λ p. p < t) (λ p. p < length nodes) (λ p l. omega (arith, l, h)) r.0.parts fine.before;
      types = typed_all nodes r.0.parts (subst (λ op. Suits op (types_at nodes r.0.parts)) r.2 fine.suits).1;
      below = All-weaker (Contains r.0.parts) (IsSubterm nodes t) (λ p c. deeper t p itself (subst (λ ps. Contains ps p) (sym (parts-node nodes t r.0 r.1)) c)) r.0.parts (All-contains_itself r.0.parts);
      same = λ m. ap number_of (value-node m nodes t r.0 w r.1 ∙ ap (λ op. apply m op (types_at nodes r.0.parts) (values_at m nodes r.0.parts)) r.2);
    })

-- a list of one
pub one_listed : (xs : List ℕ) (x : ℕ) → length xs ≡ 1 → x ≡ get_or xs 0 x → x ∷ [] ≡ xs
one_listed [] x h e = absurd (omega (arith, h))
one_listed (y ∷ []) x h e = λ i. e i ∷ []
one_listed (y ∷ z ∷ xs) x h e = absurd (omega (arith, h))

pub sub-trans : (nodes : List Node) (t q : ℕ) → IsSubterm nodes t q → (k : ℕ) → IsSubterm nodes q k → IsSubterm nodes t k
sub-trans nodes t q s k itself = s
sub-trans nodes t q s k (deeper j p d c) = deeper j k (sub-trans nodes t q s j d) c
