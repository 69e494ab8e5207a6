-- Models that give symbols their values, one symbol after another.
use Rattle.std.specs.Prelude.{◌≡◌, ◌≢◌, ℕ, ◌+◌, ◌<◌, ◌≤◌, Bool as Truth, true, false, IsTrue, List, [], ◌∷◌, ◌++◌, length, get_or, slice_get, slice_set, slice_index_or, Some, zero, suc}
use Rattle.std.specs.Option.{option_map}
use Rattle.std.proofs.Common.{refl, sym, ap, ◌∙◌, subst, arith, inl, inr}
use Rattle.std.proofs.lemmas.Bool.Decides.{leb_tells}
use Rattle.std.proofs.lemmas.List.{get_or_default}
use Rattle.uc_values.specs.Values.{fits, nothing}
use Rattle.uc_values.specs.declared.ty.Ty.{Ty}
use Rattle.uc_values.specs.declared.value.Value.{Value}
use Rattle.uc_ops.specs.declared.model.Model.{Model}
use Rattle.uc_ops.specs.declared.op.Op.{Op}
use Rattle.uc_ops.specs.declared.op.Op.TheVariants.{Symbol}
use Rattle.uc_ops.specs.declared.node.Node.{Node}
use Rattle.uc_ops.specs.Typing.{type_at}
use Rattle.uc_ops.specs.Meaning.{part}
use Rattle.uc_ops.proofs.Lists.{at_place}
use Rattle.uc_terms.specs.Tables.{HasOp, WellTyped, NoTwoEqual, parts_at}
use Rattle.uc_terms.specs.Subterms.{IsSubterm, EvenlyTyped, Marked, AreSubterms}
use Rattle.uc_terms.proofs.Grown.{parts-node}
use Rattle.uc_terms.proofs.Walk.{marked_within}
use Rattle.uc_lower.specs.Lowering.{IsSymbol}
use Rattle.uc_lower.proofs.Growing.{one_op}
use Rattle.uc_lower.proofs.Inner.{node_facts}
use Rattle.uc_lower.proofs.Building.{no_types}
use Rattle.uc_lower.proofs.Marking.{below_of, marked_of}
use Rattle.uc_lower.proofs.Symboling.{symbol_value}
use Rattle.uc_solver.specs.Symbols.{AppliesNone, FitSymbols, HasValues, IsPut, IsGiven, skipped, given, AreGiven}

-- setting a place of a list
pub get_set_same : {A : Type 0} (xs : List A) (k : ℕ) (x : A) → k < length xs → slice_get (slice_set xs k x) k ≡ Some x
get_set_same [] k x l = absurd (omega (arith, l))
get_set_same (y ∷ xs) zero x l = refl
get_set_same (y ∷ xs) (suc k) x l = get_set_same xs k x (omega (arith, l))

pub get_set_other : {A : Type 0} (xs : List A) (k j : ℕ) (x : A) → j ≢ k → slice_get (slice_set xs k x) j ≡ slice_get xs j
get_set_other [] k j x n = refl
get_set_other (y ∷ xs) zero zero x n = absurd (n refl)
get_set_other (y ∷ xs) zero (suc j) x n = refl
get_set_other (y ∷ xs) (suc k) zero x n = refl
get_set_other (y ∷ xs) (suc k) (suc j) x n = get_set_other xs k j x (λ e. n (omega (arith, e)))

pub get_front : {A : Type 0} (xs ys : List A) (j : ℕ) (w : A) → slice_get xs j ≡ Some w → slice_get (xs ++ ys) j ≡ Some w
get_front [] ys j w h = cc
get_front (x ∷ xs) ys zero w h = h
get_front (x ∷ xs) ys (suc j) w h = get_front xs ys j w h

pub put_set : (old now : List Value) (number : ℕ) (v : Value) → number < length now → ((j : ℕ) (w : Value) → slice_get old j ≡ Some w → slice_get now j ≡ Some w) → IsPut old (slice_set now number v) number v
put_set old now number v l h = record {
  here = get_set_same now number v l;
  others = λ j w n e. get_set_other now number j v n ∙ h j w e;
}

-- two symbols of the term with one number are one
node_op : (nodes : List Node) (j : ℕ) (node : Node) (op : Op) → slice_get nodes j ≡ Some node → HasOp nodes j op → node.op ≡ op
node_op nodes j node op e h = let f : Some node.op ≡ Some op = sym (ap (option_map (λ n. n.op)) e) ∙ h in cc

leaf_parts : (nodes : List Node) (j number : ℕ) (ty : Ty) → WellTyped nodes → j < length nodes → HasOp nodes j (Symbol number ty) → parts_at nodes j ≡ []
leaf_parts nodes j number ty w l h = no_types nodes (parts_at nodes j) (node_facts nodes j (Symbol number ty) w l h).suits.0

-- two places with one symbol are one place
pub one_symbol : (nodes : List Node) (j k number : ℕ) (ty : Ty) → WellTyped nodes → NoTwoEqual nodes → j < length nodes → k < length nodes → HasOp nodes j (Symbol number ty) → HasOp nodes k (Symbol number ty) → j ≡ k
one_symbol nodes j k number ty w two lj lk hj hk =
    let m = at_place nodes j lj in
    let n = at_place nodes k lk in
    let ops : m.0.op ≡ n.0.op = node_op nodes j m.0 (Symbol number ty) m.1 hj ∙ sym (node_op nodes k n.0 (Symbol number ty) n.1 hk) in
    let parts : m.0.parts ≡ n.0.parts = sym (parts-node nodes j m.0 m.1) ∙ leaf_parts nodes j number ty w lj hj ∙ sym (leaf_parts nodes k number ty w lk hk) ∙ parts-node nodes k n.0 n.1 in
    two j k m.0 n.0 m.1 n.1 ops parts

pub symbols_apart : (nodes : List Node) (t j k a b : ℕ) (r s : Ty) → WellTyped nodes → NoTwoEqual nodes → EvenlyTyped nodes t → IsSubterm nodes t j → IsSubterm nodes t k → j < length nodes → k < length nodes
    → HasOp nodes j (Symbol a r) → HasOp nodes k (Symbol b s) → a ≡ b → j ≡ k
symbols_apart nodes t j k a b r s w two even sj sk lj lk hj hk e =
    let hk2 : HasOp nodes k (Symbol a s) = subst (λ i. HasOp nodes k (Symbol i s)) (sym e) hk in
    let same : r ≡ s = even.symbols j k a r s sj sk hj hk2 in
    one_symbol nodes j k a s w two lj lk (subst (λ ty. HasOp nodes j (Symbol a ty)) same hj) hk2

-- what is known of the table, the term and the marks of its subterms
pub record Known (nodes : List Node) (t : ℕ) (marks : List Truth) : Type 0 where
  pub well : WellTyped nodes
  pub two : NoTwoEqual nodes
  pub even : EvenlyTyped nodes t
  pub below : AreSubterms nodes (t ∷ []) marks

pub given_none : (nodes : List Node) (marks : List Truth) (values symbols : List Value) → AreGiven nodes marks values 0 symbols
given_none nodes marks values symbols k number ty l = absurd (omega (arith, l))

-- one place more
pub given_next : (nodes : List Node) (t : ℕ) (marks : List Truth) (values old new : List Value) (place : ℕ) (marked : Truth) → Known nodes t marks → marked ≡ slice_index_or marks place false → place < length marks
    → IsGiven nodes marked place (part values place) old new → AreGiven nodes marks values place old → AreGiven nodes marks values (place + 1) new
given_next nodes t marks values old new place marked known e inside (skipped none same) h k number ty l mk has =
    elim (leb_tells (suc k) place) [
      | inl x ↦ ap (λ xs. slice_get xs number) same ∙ h k number ty x.1 mk has
      | inr x ↦
          let here : k ≡ place = omega (arith, l, x.1) in
          absurd (none (e ∙ subst (Marked marks) here mk) (record { number = number; ty = ty; has = subst (λ i. HasOp nodes i (Symbol number ty)) here has }))
    ]
given_next nodes t marks values old new place marked known e inside (given n s is own put) h k number ty l mk has =
    let in_nodes : place < length nodes = omega (arith, inside, known.below.within) in
    elim (leb_tells (suc k) place) [
      | inl x ↦
          let apart : number ≢ n = λ z. absurd (omega (
            arith,
            x.1,
            symbols_apart nodes t k place number n ty s known.well known.two known.even (below_of nodes t marks known.below k mk) (below_of nodes t marks known.below place (sym e ∙ is)) (omega (arith, x.1, in_nodes)) in_nodes has own z,
          )) in
          put.others number (part values k) apart (h k number ty x.1 mk has)
      | inr x ↦
          let here : k ≡ place = omega (arith, l, x.1) in
          let z : Symbol number ty ≡ Symbol n s = one_op nodes place (Symbol number ty) (Symbol n s) (subst (λ i. HasOp nodes i (Symbol number ty)) here has) own in
          let en : number ≡ n = cc in
          ap (slice_get new) en ∙ put.here ∙ ap (λ i. Some (part values i)) (sym here)
    ]

-- where all symbols are given, the model has their values
pub given_all : (nodes : List Node) (t : ℕ) (marks : List Truth) (values : List Value) (place : ℕ) (m : Model) → Known nodes t marks → length marks ≤ place → AppliesNone nodes t → FitSymbols nodes t values
    → AreGiven nodes marks values place m.symbols → HasValues m nodes t values
given_all nodes t marks values place m known l none fit h =
    let inside : (k : ℕ) → IsSubterm nodes t k → k < length marks = λ k s. marked_within marks k (marked_of nodes t marks known.below k s) in
    let typed : (k number : ℕ) (ty : Ty) → IsSubterm nodes t k → HasOp nodes k (Symbol number ty) → IsTrue (fits ty (part values k)) = λ k number ty s has.
    let e : type_at nodes k ≡ ty = (node_facts nodes k (Symbol number ty) known.well (omega (arith, inside k s, known.below.within)) has).typed in
    subst (λ y. IsTrue (fits y (part values k))) e (fit k s (record { number = number; ty = ty; has = has })) in
    let at : (k number : ℕ) (ty : Ty) → IsSubterm nodes t k → HasOp nodes k (Symbol number ty) → slice_get m.symbols number ≡ Some (part values k) = λ k number ty s has.
    h k number ty (omega (arith, inside k s, l)) (marked_of nodes t marks known.below k s) has in
    record {
      fits = record {
        symbols = λ k number ty s has. (part values k, at k number ty s has, typed k number ty s has);
        functions = λ k number ty s has. absurd (none k number ty s has);
      };
      same = λ k s y.
          symbol_value m nodes k y.number y.ty (part values k) known.well (omega (arith, inside k s, known.below.within)) y.has (at k y.number y.ty s y.has) (typed k y.number y.ty s y.has);
    }

-- the symbol at a place is given the value there
pub gives : (nodes : List Node) (marked : Truth) (place : ℕ) (node : Node) (number : ℕ) (ty : Ty) (v w : Value) (values old new : List Value) → marked ≡ true → slice_get nodes place ≡ Some node → node.op ≡ Symbol number ty
    → v ≡ w → w ≡ get_or values place w → place < length values → IsPut old new number v → IsGiven nodes marked place (part values place) old new
gives nodes marked place node number ty v w values old new m at is e g l h =
    let same : v ≡ part values place = e ∙ g ∙ get_or_default values place w nothing l in
    given number ty m (ap (option_map (λ n. n.op)) at ∙ ap Some is) (subst (IsPut old new number) same h)
