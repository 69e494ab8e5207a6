-- What is found from round to round.
use Rattle.std.proofs.Common.{◌≡◌, ℕ, zero, suc, ◌+◌, ◌<◌, ◌≤◌, Bool, true, false, List, [], ◌∷◌, ◌++◌, length, refl, ap, sym, subst, ◌∙◌, arith, ◌⊎◌, ⊎_elim}
use Rattle.std.specs.Prelude.{not, ◌&&◌, ◌||◌}
use Rattle.std.proofs.lemmas.List.{append-nil}
use Rattle.uc_graph.specs.Order.{has, needs}
use Rattle.uc_graph.specs.Reached.{IsReached, IsTaken, ReachedBy, is_left}
use Rattle.uc_graph.specs.Taking.{Spreads, Takes, left_count, edge_from}
use Rattle.uc_graph.proofs.Bools.{nothing, either, and_left, and_right, false_and, and_none, left_first, left_round, was_taken}
use Rattle.uc_graph.proofs.Members.{edge_by, edge_there, has_append}

module _ (graph : List (List ℕ)) (start : List Bool) (starts : List ℕ) where
  -- the first nodes
  pub spreads_first : (left : List Bool) (found fresh none : List ℕ) → found ≡ [] → none ≡ [] → Takes (has starts) start none left fresh → Spreads graph start starts left found fresh
  unfolding ReachedBy
  spreads_first left found fresh none f e t = subst (λ xs. Spreads graph start starts left xs fresh) (sym f) (record {
    size = t.size;
    left_now = λ n. t.left_now n ∙ left_first (is_left start n) (has starts n) ∙ ap (λ b. is_left start n && not b) (sym (is_fresh n));
    begun = λ n h. t.left_now n ∙ ap (λ b. is_left start n && not b) h ∙ and_none (is_left start n);
    followed = λ n m h k. nothing (sym h);
    reached = λ n h. (0, (and_right (is_left start n) (has starts n) (sym (is_fresh n) ∙ h), and_left (is_left start n) (has starts n) (sym (is_fresh n) ∙ h)));
  })
    where
      is_fresh : (n : ℕ) → has fresh n ≡ (is_left start n && has starts n)
      is_fresh n = t.taken_now n ∙ ap (λ xs. has xs n || (is_left start n && has starts n)) e

  -- one more round
  round_of : (left after : List Bool) (found fresh next all : List ℕ) → all ≡ found ++ fresh → Spreads graph start starts left found fresh → Takes (edge_from graph fresh) left [] after next →
      Spreads graph start starts after all next
  unfolding ReachedBy
  round_of left after found fresh next all is s t = subst (λ xs. Spreads graph start starts after xs next) (sym is) (record {
    size = t.size ∙ s.size;
    left_now = λ n.
        t.left_now n
        ∙ ap (λ l. l && not (edge_from graph fresh n)) (s.left_now n)
        ∙ left_round (is_left start n) (has (found ++ fresh) n) (edge_from graph fresh n)
        ∙ ap (λ l. is_left start n && not (has (found ++ fresh) n || (l && edge_from graph fresh n))) (sym (s.left_now n))
        ∙ ap (λ b. is_left start n && not (has (found ++ fresh) n || b)) (sym (t.taken_now n))
        ∙ ap (λ b. is_left start n && not b) (sym (has_append (found ++ fresh) next n));
    begun = λ n h. t.left_now n ∙ false_and (is_left left n) (not (edge_from graph fresh n)) (s.begun n h);
    followed = λ n m h k.
        t.left_now m
        ∙ ⊎_elim
        (λ old. false_and (is_left left m) (not (edge_from graph fresh m)) (s.followed n m old k))
        (λ new. ap (λ b. is_left left m && not b) (edge_there graph fresh n m new k) ∙ and_none (is_left left m))
        (either (has found n) (has fresh n) (sym (has_append found fresh n) ∙ h));
    reached = λ n h.
        ⊎_elim (s.reached n)
        (λ new.
        let from = edge_by graph fresh n (and_right (is_left left n) (edge_from graph fresh n) (sym (t.taken_now n) ∙ new)) in
        let before = s.reached from.0 (in_fresh from.0 from.1) in
        (suc before.0, (from.0, before.1, from.2, was_left n new)))
        (split n h);
  })
    where
      split : (n : ℕ) → has ((found ++ fresh) ++ next) n ≡ true → (has (found ++ fresh) n ≡ true) ⊎ (has next n ≡ true)
      split n h = either (has (found ++ fresh) n) (has next n) (sym (has_append (found ++ fresh) next n) ∙ h)

      was_left : (n : ℕ) → has next n ≡ true → is_left start n ≡ true
      was_left n new = and_left (is_left start n) (not (has (found ++ fresh) n)) (sym (s.left_now n) ∙ and_left (is_left left n) (edge_from graph fresh n) (sym (t.taken_now n) ∙ new))

      later : (b c : Bool) → c ≡ true → (b || c) ≡ true
      later true c k = refl
      later false c k = k

      in_fresh : (n : ℕ) → has fresh n ≡ true → has (found ++ fresh) n ≡ true
      in_fresh n h = has_append found fresh n ∙ later (has found n) (has fresh n) h

  pub spreads_round : (left after : List Bool) (found fresh lent next all : List ℕ) → lent ≡ fresh → all ≡ found ++ fresh → Spreads graph start starts left found fresh → Takes (edge_from graph lent) left [] after next →
      Spreads graph start starts after all next
  spreads_round left after found fresh lent next all same is s t = round_of left after found fresh next all is s (subst (λ ns. Takes (edge_from graph ns) left [] after next) same t)

  empty : (ns : List ℕ) → length ns ≤ 0 → ns ≡ []
  empty [] h = refl
  empty (n ∷ ns) h = absurd (omega (arith, h))

  all_found : (left : List Bool) (found fresh : List ℕ) → length fresh ≤ 0 → Spreads graph start starts left found fresh → Spreads graph start starts left found []
  all_found left found fresh none s = subst (Spreads graph start starts left found) (empty fresh none) s

  in_found : (found : List ℕ) (n : ℕ) → has (found ++ []) n ≡ has found n
  in_found found n = ap (λ xs. has xs n) (append-nil found)

  reached_last : (left : List Bool) (found : List ℕ) → Spreads graph start starts left found [] → IsReached graph start starts found
  reached_last left found s = record {
    begun = λ n h k. found_is n (s.begun n h) k;
    followed = λ n m h e k. found_is m (s.followed n m h e) k;
    reached = λ n h. s.reached n (in_found found n ∙ h);
  }
    where
      found_is : (n : ℕ) → is_left left n ≡ false → is_left start n ≡ true → has found n ≡ true
      found_is n gone there = sym (in_found found n) ∙ was_taken (is_left start n) (has (found ++ []) n) (sym (s.left_now n) ∙ gone) there

  -- no node was reached last
  pub spreads_end : (left : List Bool) (found fresh : List ℕ) → length fresh ≤ 0 → Spreads graph start starts left found fresh → IsReached graph start starts found
  spreads_end left found fresh none s = reached_last left found (all_found left found fresh none s)

  pub spreads_taken : (left : List Bool) (found fresh : List ℕ) → length fresh ≤ 0 → Spreads graph start starts left found fresh → IsTaken start found left
  spreads_taken left found fresh none s =
      let r = all_found left found fresh none s in record { size = r.size; left_now = λ n. r.left_now n ∙ ap (λ b. is_left start n && not b) (in_found found n) }

-- fewer are left, or were reached last
pub fewer_left : (test : ℕ → Bool) (left after : List Bool) (fresh next : List ℕ) → 0 < length fresh → Takes test left [] after next → left_count after + length next < left_count left + length fresh
fewer_left test left after fresh next some t = let e : left_count after + length next ≡ left_count left + 0 = t.count in omega (arith, e, some)
