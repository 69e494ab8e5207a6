-- What a table is after an operation on parts was asked for, where equal nodes are shared.
use Rattle.std.specs.Prelude.{◌≡◌, ℕ, ◌+◌, ◌<◌, ◌≤◌, Bool, true, false, cond, ◌||◌, List, [], ◌∷◌, ◌++◌, length, slice_get, Some, All}
use Rattle.std.specs.List.{list_any, IsDistinct, AllByRecursion}
use Rattle.std.proofs.Common.{refl, sym, ap, ◌∙◌, arith, subst, length-append, inl, inr, zero, suc, append-nil}
use Rattle.std.proofs.lemmas.Bool.{false≢true}
use Rattle.std.proofs.Math.Bool.{or-true}
use Rattle.uc_ops.specs.declared.model.Model.{Model}
use Rattle.uc_ops.specs.declared.op.Op.{Op}
use Rattle.uc_ops.specs.declared.node.Node.{Node}
use Rattle.uc_ops.specs.Equality.{equal_nodes}
use Rattle.uc_ops.specs.Decisions.{nodes-equivalence}
use Rattle.uc_ops.specs.Typing.{Suits, type_of, type_at, types_at}
use Rattle.uc_ops.specs.Meaning.{apply}
use Rattle.uc_ops.proofs.Lists.{same_map, slice_get-within}
use Rattle.uc_ops.proofs.Rebuilt.{same_nodes, nodes_equal}
use Rattle.uc_terms.specs.Tables.{WellTyped, NoTwoEqual, node_of, Makes, Adds}
use Rattle.uc_terms.specs.Values.{value, values_at}
use Rattle.uc_terms.proofs.Grown.{slice_get-last, slice_get-push, types-keep, type-keeps, type-node, added-fine}
use Rattle.uc_terms.proofs.Values.{value-node, value-keeps}

any-place : {A : Type 0} (f : A → Bool) (xs : List A) (k : ℕ) (x : A) → slice_get xs k ≡ Some x → f x ≡ true → list_any f xs ≡ true
any-place f [] k x h e = cc
any-place f (y ∷ xs) zero x h e = let s : y ≡ x = cc in ap (λ b. b || list_any f xs) (ap f s ∙ e)
any-place f (y ∷ xs) (suc k) x h e = ap (λ b. f y || b) (any-place f xs k x h e) ∙ or-true (f y)

-- what asking for an operation on parts makes of a table
pub record Shares (old new : List Node) (t : ℕ) (op : Op) (parts : List ℕ) : Type 0 where
  pub well : WellTyped new
  pub short : length new ≤ length old + 1
  pub makes : Makes old new t op parts
  pub adds : Adds old new op parts

-- the given node, where the table has one that is equal
found : (old : List Node) (op : Op) (parts : List ℕ) (t : ℕ) (k : Node) → WellTyped old → Suits op (types_at old parts)
    → slice_get old t ≡ Some k → equal_nodes (node_of old op parts) k ≡ true → Shares old old t op parts
found old op parts t k w s h e =
    let fine = w t k h in
    let same = same_nodes (node_of old op parts) k (types_at old parts) (types_at old k.parts) s fine.suits e in
    let ty : type_of op (types_at old parts) ≡ k.ty = (λ i. type_of (same.0 i) (types_at old (same.1 i))) ∙ sym fine.typed in
    let node : node_of old op parts ≡ k = λ i. record { op = same.0 i; parts = same.1 i; ty = ty i } in
    record {
      well = w;
      short = omega arith;
      makes = record { grown = ([], sym (append-nil old)); before = subst (All (λ p. p < t)) (sym same.1) fine.before; node = h ∙ ap Some (sym node) };
      adds = record { shared = λ _. refl; added = λ no. absurd (no (record { place = t; node = k; there = h; same_op = sym same.0; same_parts = sym same.1 })) };
    }

-- the node is added, where none is equal
added : (old : List Node) (op : Op) (parts : List ℕ) (t : ℕ) (k : Node) → WellTyped old → All (λ p. p < length old) parts → Suits op (types_at old parts)
    → list_any (equal_nodes (node_of old op parts)) old ≡ false → slice_get (old ++ node_of old op parts ∷ []) t ≡ Some k → equal_nodes (node_of old op parts) k ≡ true
    → Shares old (old ++ node_of old op parts ∷ []) t op parts
added old op parts t k w b s none h e =
    let node = node_of old op parts in
    let last : t ≡ length old = elim (slice_get-push old node k t h) [
      | inl r ↦ absurd (false≢true (sym none ∙ any-place (equal_nodes node) old t k r.1 e))
      | inr r ↦ r.0
    ] in
    record {
      well = added-fine old op parts w b s;
      short = omega (arith, length-append old (node ∷ []));
      makes = record {
        grown = (node ∷ [], refl);
        before = subst (λ n. All (λ p. p < n) parts) (sym last) b;
        node = ap (slice_get (old ++ node ∷ [])) last ∙ slice_get-last old node;
      };
      adds = record {
        shared = λ h. absurd (false≢true (sym none ∙ any-place (equal_nodes node) old h.place h.node h.there (nodes_equal node h.node (sym h.same_op) (sym h.same_parts))));
        added = λ _. refl;
      };
    }

shared_by : (old new : List Node) (op : Op) (parts : List ℕ) (t : ℕ) (k : Node) (b : Bool) → list_any (equal_nodes (node_of old op parts)) old ≡ b
    → WellTyped old → All (λ p. p < length old) parts → Suits op (types_at old parts) → new ≡ cond b old (old ++ node_of old op parts ∷ [])
    → slice_get new t ≡ Some k → equal_nodes (node_of old op parts) k ≡ true → Shares old new t op parts
shared_by old new op parts t k true is w b s e h q =
    subst (λ ns. Shares old ns t op parts) (sym e) (found old op parts t k w s (ap (λ ns. slice_get ns t) (sym e) ∙ h) q)
shared_by old new op parts t k false is w b s e h q =
    subst (λ ns. Shares old ns t op parts) (sym e) (added old op parts t k w b s is (ap (λ ns. slice_get ns t) (sym e) ∙ h) q)

-- a table with the node of an operation on parts inserted
pub shared : (old new : List Node) (op : Op) (parts : List ℕ) (n : Node) (t : ℕ) (k : Node) → n ≡ node_of old op parts
    → WellTyped old → All (λ p. p < length old) parts → Suits op (types_at old parts)
    → new ≡ cond (list_any (equal_nodes n) old) old (old ++ n ∷ []) → slice_get new t ≡ Some k → equal_nodes n k ≡ true → Shares old new t op parts
shared old new op parts n t k same w b s g h q =
    shared_by old new op parts t k (list_any (equal_nodes (node_of old op parts)) old) refl w b s
    (subst (λ x. new ≡ cond (list_any (equal_nodes x) old) old (old ++ x ∷ [])) same g) h (subst (λ x. equal_nodes x k ≡ true) same q)

-- the new term has the value of the operation on the values that the parts had
pub makes-value : (old new : List Node) (t : ℕ) (op : Op) (parts : List ℕ) → WellTyped new → Makes old new t op parts → All (λ p. p < length old) parts
    → (m : Model) → value m new t ≡ apply m op (types_at old parts) (values_at m old parts)
makes-value old new t op parts w a b m =
    let more = a.grown.0 in
    let types : types_at new parts ≡ types_at old parts = ap (λ ns. types_at ns parts) a.grown.1 ∙ types-keep old more (length old) parts (omega arith) b in
    let values : values_at m new parts ≡ values_at m old parts =
    same_map (value m new) (value m old) (λ p. p < length old) parts (λ p l. ap (λ ns. value m ns p) a.grown.1 ∙ value-keeps m old more p l) b in
    value-node m new t (node_of old op parts) w a.node ∙ ap (λ ts. apply m op ts (values_at m new parts)) types ∙ ap (apply m op (types_at old parts)) values

-- a list of which no element is equal to one after it has each element once
apart : {A : Type 0} (E : A → A → Bool) (x : A) (ys : List A) (k : ℕ) (y : A) → AllByRecursion (λ z. E x z ≡ false) ys → slice_get ys k ≡ Some y → E x y ≡ false
apart E x [] k y a h = cc
apart E x (z ∷ ys) zero y a h = let s : z ≡ y = cc in subst (λ v. E x v ≡ false) s a.0
apart E x (z ∷ ys) (suc k) y a h = apart E x ys k y a.1 h

once : {A : Type 0} (E : A → A → Bool) → ((x y : A) → E x y ≡ E y x) → (xs : List A) → IsDistinct E xs → (j k : ℕ) (x y : A) → slice_get xs j ≡ Some x → slice_get xs k ≡ Some y → E x y ≡ true → j ≡ k
unfolding IsDistinct
once E flip [] d j k x y g h e = cc
once E flip (z ∷ xs) d zero zero x y g h e = refl
once E flip (z ∷ xs) d zero (suc k) x y g h e = let s : z ≡ x = cc in absurd (false≢true (sym (apart E z xs k y d.0 h) ∙ ap (λ v. E v y) s ∙ e))
once E flip (z ∷ xs) d (suc j) zero x y g h e = let s : z ≡ y = cc in absurd (false≢true (sym (apart E z xs j x d.0 g) ∙ flip z x ∙ ap (E x) s ∙ e))
once E flip (z ∷ xs) d (suc j) (suc k) x y g h e = ap suc (once E flip xs d.1 j k x y g h e)

-- no two nodes of a table are equal
pub no_two_equal : (nodes : List Node) → IsDistinct equal_nodes nodes → NoTwoEqual nodes
no_two_equal nodes d j k m n g h e f = once equal_nodes nodes-equivalence.symm nodes d j k m n g h (nodes_equal m n e f)

-- the term that was asked for is in the table, and has the type of the operation
pub made-within : (old new : List Node) (t : ℕ) (op : Op) (parts : List ℕ) → Makes old new t op parts → t < length new
made-within old new t op parts a = slice_get-within new t (node_of old op parts) a.node

pub made-type : (old new : List Node) (t : ℕ) (op : Op) (parts : List ℕ) → Makes old new t op parts → type_at new t ≡ type_of op (types_at old parts)
made-type old new t op parts a = type-node new t (node_of old op parts) a.node

-- and all terms keep their types
pub made-keeps : (old new : List Node) (t : ℕ) (op : Op) (parts : List ℕ) → Makes old new t op parts → (p : ℕ) → p < length old → type_at new p ≡ type_at old p
made-keeps old new t op parts a p h = ap (λ ns. type_at ns p) a.grown.1 ∙ type-keeps old a.grown.0 p h

pub made-length : (old new : List Node) (t : ℕ) (op : Op) (parts : List ℕ) → Makes old new t op parts → length old ≤ length new
made-length old new t op parts a = omega (arith, length-append old a.grown.0, ap length a.grown.1)
