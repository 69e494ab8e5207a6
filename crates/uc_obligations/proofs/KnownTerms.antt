-- Subterms of known terms.
use Rattle.std.specs.Prelude.{◌≡◌, ℕ, ◌<◌, List, length, slice_get, Some, All, Contains}
use Rattle.std.specs.Option.{option_map}
use Rattle.std.proofs.Common.{sym, ap, ◌∙◌, subst, arith}
use Rattle.std.proofs.lemmas.List.Elements.{All-contains}
use Rattle.uc_values.specs.declared.ty.Ty.{Ty}
use Rattle.uc_ops.specs.declared.op.Op.{Op}
use Rattle.uc_ops.specs.declared.op.Op.TheVariants.{Symbol, App}
use Rattle.uc_ops.specs.declared.node.Node.{Node}
use Rattle.uc_ops.proofs.Lists.{at_place}
use Rattle.uc_terms.specs.Tables.{HasOp, WellTyped, parts_at}
use Rattle.uc_terms.specs.Subterms.{IsSubterm, itself, deeper, EvenlyTyped}
use Rattle.uc_terms.proofs.Grown.{parts-node}
use Rattle.uc_symstep.specs.Known.{IsKnown, known}

-- the parts of a term have smaller numbers
pub parts_before : (nodes : List Node) (t : ℕ) → WellTyped nodes → t < length nodes → All (λ p. p < t) (parts_at nodes t)
parts_before nodes t w l =
    let r = at_place nodes t l in
    subst (All (λ p. p < t)) (sym (parts-node nodes t r.0 r.1)) (w t r.0 r.1).before

-- the numbers of subterms are those of terms
pub subterm_there : (nodes : List Node) (t k : ℕ) → WellTyped nodes → t < length nodes → IsSubterm nodes t k → k < length nodes
subterm_there nodes t k w l itself = l
subterm_there nodes t k w l (deeper j p s c) =
    let inside : j < length nodes = subterm_there nodes t j w l s in
    let small : p < j = All-contains (λ q. q < j) (parts_at nodes j) p (parts_before nodes j w inside) c in
    omega (arith, small, inside)

known_part : (supply : List Ty) (nodes : List Node) (t p : ℕ) → IsKnown supply nodes t → Contains (parts_at nodes t) p → IsKnown supply nodes p
known_part supply nodes t p (known u node there symbol parts) c = parts p (subst (λ ps. Contains ps p) (parts-node nodes t node there) c)

pub known_below : (supply : List Ty) (nodes : List Node) (t : ℕ) → IsKnown supply nodes t → (k : ℕ) → IsSubterm nodes t k → IsKnown supply nodes k
known_below supply nodes t h k itself = h
known_below supply nodes t h k (deeper j p s c) = known_part supply nodes j k (known_below supply nodes t h j s) c

pub op_is : (nodes : List Node) (t : ℕ) (node : Node) (op : Op) → slice_get nodes t ≡ Some node → HasOp nodes t op → node.op ≡ op
op_is nodes t node op there has = let e : Some node.op ≡ Some op = sym (ap (option_map (λ n. n.op)) there) ∙ has in cc

known_symbol : (supply : List Ty) (nodes : List Node) (t number : ℕ) (ty : Ty) → IsKnown supply nodes t → HasOp nodes t (Symbol number ty) → slice_get supply number ≡ Some ty
known_symbol supply nodes t number ty (known u node there symbol parts) has = symbol number ty (op_is nodes t node (Symbol number ty) there has)

-- each symbol at or below a known term has its type in the supply, at its number
pub symbol_below : (supply : List Ty) (nodes : List Node) (t k number : ℕ) (ty : Ty) → IsKnown supply nodes t → IsSubterm nodes t k → HasOp nodes k (Symbol number ty) → slice_get supply number ≡ Some ty
symbol_below supply nodes t k number ty h s has = known_symbol supply nodes k number ty (known_below supply nodes t h k s) has

-- a known term without functions gives each number one type
pub known_even : (supply : List Ty) (nodes : List Node) (t : ℕ) → IsKnown supply nodes t → ((k number : ℕ) (ty : Ty) → IsSubterm nodes t k → ¬ HasOp nodes k (App number ty)) → EvenlyTyped nodes t
known_even supply nodes t h none = record {
  symbols = λ j k number r s sj sk hj hk.
      let e : Some r ≡ Some s = sym (symbol_below supply nodes t j number r h sj hj) ∙ symbol_below supply nodes t k number s h sk hk in
      cc;
  functions = λ j k number r s sj sk hj hk. absurd (none j number r sj hj);
}
