-- Operations of nodes, and their types.
use Rattle.std.specs.Prelude.{◌≡◌, ℕ, ◌<◌, Bool as Truth, true, IsTrue, List, [], ◌∷◌, map, slice_get, Option, Some, None, All}
use Rattle.std.specs.Option.{option_map}
use Rattle.std.proofs.Common.{refl, sym, ap, ◌∙◌, subst, arith}
use Rattle.uc_values.specs.declared.ty.Ty.{Ty}
use Rattle.uc_values.specs.Types.{is_scalar}
use Rattle.uc_ops.specs.declared.op.Op.{Op}
use Rattle.uc_ops.specs.declared.op.Op.TheVariants.{Symbol, App}
use Rattle.uc_ops.specs.declared.node.Node.{Node}
use Rattle.uc_ops.specs.Typing.{Suits, type_of, type_at, types_at}
use Rattle.uc_terms.specs.Tables.{HasOp, WellTyped, NoTwoEqual, parts_at}
use Rattle.uc_terms.proofs.Grown.{type-node, parts-node}

pub record IsOf (o : Option Node) (op : Op) : Type 0 where
  pub node : Node
  pub is : o ≡ Some node
  pub same : node.op ≡ op

-- an operation is that of a node
pub node_of_op : (o : Option Node) (op : Op) → option_map (λ (n : Node). n.op) o ≡ Some op → IsOf o op
node_of_op None op h = cc
node_of_op (Some n) op h = record { node = n; is = refl; same = cc }

pub has_op : (nodes : List Node) (k : ℕ) (node : Node) (op : Op) → slice_get nodes k ≡ Some node → node.op ≡ op → HasOp nodes k op
has_op nodes k node op h e = ap (option_map (λ (n : Node). n.op)) h ∙ ap Some e

-- the term has the type of its operation on its parts, which suit it
pub record IsTyped (nodes : List Node) (k : ℕ) (op : Op) : Type 0 where
  pub suits : Suits op (types_at nodes (parts_at nodes k))
  pub typed : type_at nodes k ≡ type_of op (types_at nodes (parts_at nodes k))

pub op_typed : (nodes : List Node) (k : ℕ) (op : Op) → WellTyped nodes → HasOp nodes k op → IsTyped nodes k op
op_typed nodes k op w h =
    let n = node_of_op (slice_get nodes k) op h in
    let f = w k n.node n.is in
    let e : parts_at nodes k ≡ n.node.parts = parts-node nodes k n.node n.is in
    let c : (ps : List ℕ) → ps ≡ n.node.parts → Suits op (types_at nodes ps) = λ ps p. subst (λ x. Suits op (types_at nodes x)) (sym p) (subst (λ o. Suits o (types_at nodes n.node.parts)) n.same f.suits) in
    record {
      suits = c (parts_at nodes k) e;
      typed = type-node nodes k n.node n.is ∙ f.typed ∙ ap (λ o. type_of o (types_at nodes n.node.parts)) n.same ∙ ap (λ ps. type_of op (types_at nodes ps)) (sym e);
    }

no_parts : (nodes : List Node) (ps : List ℕ) → types_at nodes ps ≡ [] → ps ≡ []
no_parts nodes [] h = refl
no_parts nodes (p ∷ ps) h = cc

-- equal nodes are shared: two places with one symbol are one
pub one_symbol : (nodes : List Node) (j k number : ℕ) (ty : Ty) → WellTyped nodes → NoTwoEqual nodes → HasOp nodes j (Symbol number ty) → HasOp nodes k (Symbol number ty) → j ≡ k
one_symbol nodes j k number ty w d g h =
    let m = node_of_op (slice_get nodes j) (Symbol number ty) g in
    let n = node_of_op (slice_get nodes k) (Symbol number ty) h in
    let p : m.node.parts ≡ [] = no_parts nodes m.node.parts (subst (λ o. Suits o (types_at nodes m.node.parts)) m.same (w j m.node m.is).suits).0 in
    let q : n.node.parts ≡ [] = no_parts nodes n.node.parts (subst (λ o. Suits o (types_at nodes n.node.parts)) n.same (w k n.node n.is).suits).0 in
    d j k m.node n.node m.is n.is (m.same ∙ sym n.same) (p ∙ sym q)
