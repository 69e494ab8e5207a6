-- Signatures of the numbers of symbols and functions, and what evenly typed means.
use Rattle.std.specs.Prelude.{◌≡◌, ℕ, ◌<◌, Bool as Truth, true, false, IsTrue, List, [], ◌∷◌, length, map, slice_get, Option, Some, None, All}
use Rattle.std.specs.Bool.{Decides}
use Rattle.std.specs.Option.{option_map}
use Rattle.std.proofs.Common.{refl, sym, ap, ◌∙◌, subst, arith}
use Rattle.std.proofs.Math.ListN.{get_or-map}
use Rattle.std.proofs.lemmas.List.{length-map}
use Rattle.std.proofs.lemmas.Option.{none-some, same_Some}
use Rattle.uc_values.specs.declared.ty.Ty.{Ty}
use Rattle.uc_values.specs.Types.{is_scalar}
use Rattle.uc_ops.specs.declared.op.Op.{Op}
use Rattle.uc_ops.specs.declared.op.Op.TheVariants.{Symbol, App}
use Rattle.uc_ops.specs.declared.node.Node.{Node}
use Rattle.uc_ops.specs.Typing.{Suits, type_of, type_at, types_at}
use Rattle.uc_terms.specs.Tables.{HasOp, WellTyped, NoTwoEqual, parts_at}
use Rattle.uc_terms.specs.Subterms.{IsSubterm, EvenlyTyped, Marked, AreSubterms}
use Rattle.uc_terms.proofs.Walk.{marked_within}
use Rattle.uc_lower.proofs.Marking.{below_of, marked_of}
use Rattle.uc_solver.specs.declared.signature.Kind.{Kind}
use Rattle.uc_solver.specs.declared.signature.Kind.TheVariants.{Symbols, Functions}
use Rattle.uc_solver.specs.Signatures.{number_in, node_number, number_at, HaveOneSignature, AreEven, IsApplied}
use Rattle.uc_solver.proofs.Operations.{IsOf, node_of_op, has_op, op_typed, one_symbol}

-- the number of an operation
pub named : (kind : Kind) (nodes : List Node) (k number : ℕ) (op : Op) → HasOp nodes k op → number_in kind op ≡ Some number → number_at kind nodes k ≡ Some number
named kind nodes k number op h e =
    let n = node_of_op (slice_get nodes k) op h in
    ap (node_number kind) n.is ∙ ap (number_in kind) n.same ∙ e

pub number_node : (kind : Kind) (nodes : List Node) (k : ℕ) (node : Node) → slice_get nodes k ≡ Some node → number_at kind nodes k ≡ number_in kind node.op
number_node kind nodes k node h = ap (node_number kind) h

record IsNumbered (kind : Kind) (o : Option Node) (number : ℕ) : Type 0 where
  node : Node
  is : o ≡ Some node
  has : number_in kind node.op ≡ Some number

numbered : (kind : Kind) (o : Option Node) (number : ℕ) → node_number kind o ≡ Some number → IsNumbered kind o number
numbered kind None number h = absurd (none-some number h)
numbered kind (Some n) number h = record { node = n; is = refl; has = h }

symbol_in : (op : Op) (number : ℕ) → number_in Symbols op ≡ Some number → (ty : Ty) × (op ≡ Symbol number ty)
symbol_in (Symbol n ty) number h = (ty, ap (λ i. Symbol i ty) (same_Some n number h))
symbol_in other number h = absurd (none-some number h)

function_in : (op : Op) (number : ℕ) → number_in Functions op ≡ Some number → (ty : Ty) × (op ≡ App number ty)
function_in (App n ty) number h = (ty, ap (λ i. App i ty) (same_Some n number h))
function_in other number h = absurd (none-some number h)

pub symbol_at : (nodes : List Node) (k number : ℕ) → number_at Symbols nodes k ≡ Some number → (ty : Ty) × HasOp nodes k (Symbol number ty)
symbol_at nodes k number h =
    let n = numbered Symbols (slice_get nodes k) number h in
    let s = symbol_in n.node.op number n.has in
    (s.0, has_op nodes k n.node (Symbol number s.0) n.is s.1)

pub function_at : (nodes : List Node) (k number : ℕ) → number_at Functions nodes k ≡ Some number → (ty : Ty) × HasOp nodes k (App number ty)
function_at nodes k number h =
    let n = numbered Functions (slice_get nodes k) number h in
    let s = function_in n.node.op number n.has in
    (s.0, has_op nodes k n.node (App number s.0) n.is s.1)

pub applied_at : (nodes : List Node) (k number : ℕ) → number_at Functions nodes k ≡ Some number → IsApplied nodes k
applied_at nodes k number h = let f = function_at nodes k number h in record { number = number; ty = f.0; has = f.1 }

-- two symbols of one number have different types
pub symbols_differ : (nodes : List Node) (j k number : ℕ) → WellTyped nodes → NoTwoEqual nodes → j < k → number_at Symbols nodes j ≡ Some number → number_at Symbols nodes k ≡ Some number → HaveOneSignature nodes j k → ⊥
symbols_differ nodes j k number w d l nj nk s =
    let a = symbol_at nodes j number nj in
    let b = symbol_at nodes k number nk in
    let e : a.0 ≡ b.0 = sym (op_typed nodes j (Symbol number a.0) w a.1).typed ∙ s.result ∙ (op_typed nodes k (Symbol number b.0) w b.1).typed in
    let same : j ≡ k = one_symbol nodes j k number b.0 w d (subst (λ ty. HasOp nodes j (Symbol number ty)) e a.1) b.1 in
    omega (arith, l, same)

pub scalar_result : (nodes : List Node) (k : ℕ) → WellTyped nodes → IsApplied nodes k → IsTrue (is_scalar (type_at nodes k))
scalar_result nodes k w a =
    let t = op_typed nodes k (App a.number a.ty) w a.has in
    subst (λ ty. IsTrue (is_scalar ty)) (sym t.typed) t.suits.2

pub scalar_arguments : (nodes : List Node) (k : ℕ) (ps : List ℕ) → ps ≡ parts_at nodes k → WellTyped nodes → IsApplied nodes k → All (λ p. IsTrue (is_scalar (type_at nodes p))) ps
scalar_arguments nodes k ps e w a i d l =
    let t = op_typed nodes k (App a.number a.ty) w a.has in
    let s : All (λ ty. IsTrue (is_scalar ty)) (types_at nodes ps) = subst (λ xs. All (λ ty. IsTrue (is_scalar ty)) (types_at nodes xs)) (sym e) t.suits.0 in
    subst (λ ty. IsTrue (is_scalar ty)) (get_or-map (type_at nodes) ps i d) (s i (type_at nodes d) (omega (arith, l, length-map ps (type_at nodes))))

-- each number has one signature exactly where the term is evenly typed
pub both_even : (nodes : List Node) (t : ℕ) (marks : List Truth) → WellTyped nodes → AreSubterms nodes (t ∷ []) marks → AreEven Symbols nodes marks (length marks) → AreEven Functions nodes marks (length marks) → EvenlyTyped nodes t
both_even nodes t marks w a s f =
    let within : (k : ℕ) → IsSubterm nodes t k → k < length marks = λ k b. marked_within marks k (marked_of nodes t marks a k b) in
    record {
      symbols = λ j k number r q bj bk hj hk.
          let one = s j k number (within j bj) (within k bk) (marked_of nodes t marks a j bj) (marked_of nodes t marks a k bk) (named Symbols nodes j number (Symbol number r) hj refl) (named Symbols nodes k number (Symbol number q) hk refl) in
          sym (op_typed nodes j (Symbol number r) w hj).typed ∙ one.result ∙ (op_typed nodes k (Symbol number q) w hk).typed;
      functions = λ j k number r q bj bk hj hk.
          let one = f j k number (within j bj) (within k bk) (marked_of nodes t marks a j bj) (marked_of nodes t marks a k bk) (named Functions nodes j number (App number r) hj refl) (named Functions nodes k number (App number q) hk refl) in
          (sym (op_typed nodes j (App number r) w hj).typed ∙ one.result ∙ (op_typed nodes k (App number q) w hk).typed, one.arguments);
    }

pub symbols_even : (nodes : List Node) (t : ℕ) (marks : List Truth) → WellTyped nodes → AreSubterms nodes (t ∷ []) marks → EvenlyTyped nodes t → AreEven Symbols nodes marks (length marks)
symbols_even nodes t marks w a even j k number lj lk mj mk nj nk =
    let x = symbol_at nodes j number nj in
    let y = symbol_at nodes k number nk in
    let p = op_typed nodes j (Symbol number x.0) w x.1 in
    let q = op_typed nodes k (Symbol number y.0) w y.1 in
    let e : x.0 ≡ y.0 = even.symbols j k number x.0 y.0 (below_of nodes t marks a j mj) (below_of nodes t marks a k mk) x.1 y.1 in
    record { result = p.typed ∙ e ∙ sym q.typed; arguments = p.suits.0 ∙ sym q.suits.0 }

pub functions_even : (nodes : List Node) (t : ℕ) (marks : List Truth) → WellTyped nodes → AreSubterms nodes (t ∷ []) marks → EvenlyTyped nodes t → AreEven Functions nodes marks (length marks)
functions_even nodes t marks w a even j k number lj lk mj mk nj nk =
    let x = function_at nodes j number nj in
    let y = function_at nodes k number nk in
    let p = op_typed nodes j (App number x.0) w x.1 in
    let q = op_typed nodes k (App number y.0) w y.1 in
    let e = even.functions j k number x.0 y.0 (below_of nodes t marks a j mj) (below_of nodes t marks a k mk) x.1 y.1 in
    record { result = p.typed ∙ e.0 ∙ sym q.typed; arguments = e.1 }
