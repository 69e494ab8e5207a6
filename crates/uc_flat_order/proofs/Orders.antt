-- The order of the places of the statements is that of the arranged block.
use Rattle.std.proofs.Common.{◌≡◌, ℕ, zero, suc, ◌+◌, ◌<◌, List, [], ◌∷◌, map, length, get_or, refl, sym, ap, ◌∙◌, subst, true, false, Bool, Option, Some, None, arith}
use Rattle.std.specs.Prelude.{Result, Ok, Err, IfOk, not, ◌&&◌, nat_lt, slice_get}
use Rattle.std.specs.List.{list_all, filter_map, cons_option}
use Rattle.std.proofs.lemmas.Bool.Decides.{nat_tests}
use Rattle.std.proofs.lemmas.List.{length-map}
use Rattle.uc_syntax.specs.declared.statement.Stmt.{Stmt}
use Rattle.uc_flat_expressions.specs.declared.typed.Meant.{Meant}
use Rattle.uc_flat_expressions.specs.Expressions.{all_of}
use Rattle.uc_graph.specs.Order.{has, needs}
use Rattle.uc_graph.specs.Arranged.{arranged_in, arranged, in_order}
use Rattle.uc_graph.specs.Places.{numbers_from, Follows, IsPlaced}
use Rattle.uc_graph.proofs.Arranged.{and_true, true_and, all_reordered, keeps_items, arranged_mapped, order_mapped}
use Rattle.uc_flat_code.specs.Once.{each_writes, written_by}
use Rattle.uc_flat_order.specs.declared.uses.Uses.{Uses}
use Rattle.uc_flat_order.specs.Arranged.{may_go, in_turn}
use Rattle.uc_flat_order.specs.Uses.{spared, use_of, AreNeeds, IsOrder}
use Rattle.uc_flat_order.proofs.Pairs.{fine, parts, writes, pair_is, arranged_is, arranged_not}
use Rattle.uc_flat_order.proofs.Used.{own, used, unused}

-- ---- the statements by their places

numbers_shifted : (n first : ℕ) → numbers_from (suc first) n ≡ map suc (numbers_from first n)
unfolding numbers_from
numbers_shifted zero first = refl
numbers_shifted (suc n) first = ap (λ ns. suc first ∷ ns) (numbers_shifted n (suc first))

after_suc : (f : ℕ → Stmt) (ns : List ℕ) → map f (map suc ns) ≡ map (λ i. f (suc i)) ns
after_suc f [] = refl
after_suc f (n ∷ ns) = ap (λ ss. f (suc n) ∷ ss) (after_suc f ns)

by_places : (code : List Stmt) (d : Stmt) → map (λ i. get_or code i d) (numbers_from 0 (length code)) ≡ code
unfolding numbers_from
by_places [] d = refl
by_places (s ∷ code) d =
    ap (λ ns. s ∷ map (λ i. get_or (s ∷ code) i d) ns) (numbers_shifted (length code) 0)
    ∙ ap (λ ss. s ∷ ss) (after_suc (λ i. get_or (s ∷ code) i d) (numbers_from 0 (length code)) ∙ by_places code d)

all_below : (n first : ℕ) → list_all (λ i. nat_lt i (first + n)) (numbers_from first n) ≡ true
unfolding numbers_from
all_below zero first = refl
all_below (suc n) first =
    true_and (nat_lt first (first + suc n)) (list_all (λ i. nat_lt i (first + suc n)) (numbers_from (suc first) n)) (grind (arith, nat_tests))
    (ap (λ k. list_all (λ i. nat_lt i k) (numbers_from (suc first) n)) (moved n first) ∙ all_below n (suc first))
  where
    moved : (a b : ℕ) → b + suc a ≡ suc b + a
    moved a b = omega arith

below : (i n : ℕ) → nat_lt i n ≡ true → i < n
below i n h = grind (arith, nat_tests, h)

there : (code : List Stmt) (d : Stmt) (i : ℕ) → i < length code → slice_get code i ≡ Some (get_or code i d)
there [] d i l = absurd (omega (arith, l))
there (s ∷ code) d zero l = refl
there (s ∷ code) d (suc i) l = there code d i (omega (arith, l))

-- places within the block
taken : (code : List Stmt) (d : Stmt) (order : List ℕ) → list_all (λ i. nat_lt i (length code)) order ≡ true → filter_map (slice_get code) order ≡ map (λ i. get_or code i d) order
taken code d [] h = refl
taken code d (i ∷ order) h =
    let a = and_true (nat_lt i (length code)) (list_all (λ j. nat_lt j (length code)) order) h in
    ap (λ o. cons_option o (filter_map (slice_get code) order)) (there code d i (below i (length code) a.0)) ∙ ap (λ ss. get_or code i d ∷ ss) (taken code d order a.1)

one_of_all : {A : Type 0} (p : A → Bool) (xs : List A) (i : ℕ) (d : A) → list_all p xs ≡ true → i < length xs → p (get_or xs i d) ≡ true
one_of_all p [] i d h l = absurd (omega (arith, l))
one_of_all p (x ∷ xs) zero d h l = (and_true (p x) (list_all p xs) h).0
one_of_all p (x ∷ xs) (suc i) d h l = one_of_all p xs i d (and_true (p x) (list_all p xs) h).1 (omega (arith, l))

mapped_at : (f : Stmt → Uses) (code : List Stmt) (i : ℕ) (d : Stmt) → i < length code → slice_get (map f code) i ≡ Some (f (get_or code i d))
mapped_at f [] i d l = absurd (omega (arith, l))
mapped_at f (s ∷ code) zero d l = refl
mapped_at f (s ∷ code) (suc i) d l = mapped_at f code i d (omega (arith, l))

from_zero : (k : ℕ) → k ≡ 0 + k
from_zero k = omega arith

twice_not : (b : Bool) → not (not b) ≡ b
twice_not true = refl
twice_not false = refl

module _ (names : List Meant) (n : ℕ) where
  module _ (code : List Stmt) (uses : List Uses) (graph : List (List ℕ)) (d : Stmt) (u : all_of (map (use_of names n) code) ≡ Some uses) (g : AreNeeds uses graph) where
    abbrev at : ℕ → Stmt
    at i = get_or code i d

    abbrev goes : ℕ → ℕ → Bool
    goes i j = may_go names n (at i) (at j)

    each : list_all (fine names n) code ≡ true
    each = (used names n code uses u).0

    count : length graph ≡ length code
    count = g.each ∙ ap length (used names n code uses u).1 ∙ length-map code (own names n)

    follows : Follows graph goes
    follows i j li lj ne =
        let ci : i < length code = omega (arith, li, count) in
        let cj : j < length code = omega (arith, lj, count) in
        let ui : slice_get uses i ≡ Some (own names n (at i)) = ap (λ us. slice_get us i) (used names n code uses u).1 ∙ mapped_at (own names n) code i d ci in
        let uj : slice_get uses j ≡ Some (own names n (at j)) = ap (λ us. slice_get us j) (used names n code uses u).1 ∙ mapped_at (own names n) code j d cj in
        let needed : has (needs graph i) j ≡ not (spared (parts names n (at i)) (writes names n (at j))) = g.are i j (own names n (at i)) (own names n (at j)) ui uj in
        pair_is names n (at i) (at j)
        ∙ ap (λ b. b && (fine names n (at j) && spared (parts names n (at i)) (writes names n (at j)))) (one_of_all (fine names n) code i d each ci)
        ∙ ap (λ b. b && spared (parts names n (at i)) (writes names n (at j))) (one_of_all (fine names n) code j d each cj)
        ∙ sym (ap not needed ∙ twice_not (spared (parts names n (at i)) (writes names n (at j))))

    abbrev numbers : List ℕ
    numbers = numbers_from 0 (length graph)

    whole : code ≡ map at numbers
    whole = sym (by_places code d) ∙ ap (λ k. map at (numbers_from 0 k)) (sym count)

    arranged_by_places : in_turn names n code ≡ map at (arranged goes numbers)
    arranged_by_places = ap (λ ss. arranged (may_go names n) ss) whole ∙ arranged_mapped at (may_go names n) numbers

    order_by_places : in_order (may_go names n) (in_turn names n code) ≡ in_order goes (arranged goes numbers)
    order_by_places = ap (in_order (may_go names n)) arranged_by_places ∙ order_mapped at (may_go names n) (arranged goes numbers)

    placed : (o : Option (List ℕ)) → IsPlaced graph o → IsOrder names n code o
    placed None p = arranged_is names n code each ∙ order_by_places ∙ p goes follows
    placed (Some order) p =
        let q = p goes follows in
        let within : list_all (λ i. nat_lt i (length code)) order ≡ true =
        ap (list_all (λ i. nat_lt i (length code))) (sym q.0) ∙ all_reordered (λ i. nat_lt i (length code)) (arranged goes numbers) numbers (keeps_items goes _ numbers)
        ∙ ap (λ k. list_all (λ i. nat_lt i k) numbers) (sym count ∙ from_zero (length graph)) ∙ all_below (length graph) 0 in (
          taken code d order within ∙ ap (map at) (sym q.0) ∙ sym arranged_by_places,
          arranged_is names n code each ∙ order_by_places ∙ ap (in_order goes) q.0 ∙ q.1,
        )

  -- a block of no statements
  empty_placed : (graph : List (List ℕ)) (o : Option (List ℕ)) → length graph ≡ 0 → IsPlaced graph o → IsOrder names n [] o
  unfolding written_by each_writes numbers_from in_order arranged_in
  empty_placed [] (Some order) e p = (ap (filter_map (slice_get [])) (sym (p (λ i j. true) (λ i j l. absurd (omega (arith, l)))).0), refl)
  empty_placed [] None e p = absurd (true_false (p (λ i j. true) (λ i j l. absurd (omega (arith, l)))))
    where
      true_false : true ≡ false → ⊥
      true_false h = cc
  empty_placed (g ∷ graph) o e p = absurd (omega (arith, e))

  -- the places of the statements by what these use
  pub order_told : (code : List Stmt) (uses : List Uses) (graph : List (List ℕ)) (o : Option (List ℕ)) → all_of (map (use_of names n) code) ≡ Some uses → AreNeeds uses graph → IsPlaced graph o → IsOrder names n code o
  order_told [] uses graph o u g p = empty_placed graph o (g.each ∙ ap length (used names n [] uses u).1) p
  order_told (s ∷ code) uses graph o u g p = placed (s ∷ code) uses graph s u g o p

  pub order_none : (code : List Stmt) → all_of (map (use_of names n) code) ≡ None → IsOrder names n code None
  order_none code h = arranged_not names n code (unused names n code h)

  -- the answer of the order
  pub order_answer : {E : Type 0} (code : List Stmt) (uses slice : List Uses) (graph lists : List (List ℕ)) (q : Option (List Uses)) (r : Result (Option (List ℕ)) E) → q ≡ all_of (map (use_of names n) code) → q ≡ Some uses → slice ≡ uses → AreNeeds slice graph → lists ≡ graph
      → IfOk r (IsPlaced lists) → IfOk r (IsOrder names n code)
  order_answer code uses slice graph lists q (Ok o) h e s g l p = order_told code uses graph o (sym h ∙ e) (subst (λ us. AreNeeds us graph) s g) (subst (λ ls. IsPlaced ls o) l p)
  order_answer code uses slice graph lists q (Err x) h e s g l p = tt
