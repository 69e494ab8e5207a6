-- The steps in which the order grows.
use Rattle.std.proofs.Common.{◌≡◌, ◌≢◌, ℕ, zero, suc, ◌+◌, ◌<◌, ◌≤◌, Bool, true, false, List, [], ◌∷◌, ◌++◌, length, Some, None, Result, Ok, Err, OnOk, drop, get_or, refl, ap, sym, subst, ◌∙◌, arith, ◌⊎◌, inl, inr, ⊎_elim, get_or-set_other, get_or-set_same, append_assoc}
use Rattle.std.specs.Prelude.{slice_get, slice_index_or, slice_set, replicate}
use Rattle.std.proofs.lemmas.List.{length-replicate, drop_more}
use Rattle.uc_graph.specs.Order.{has, needs, IsNeededFirst}
use Rattle.uc_graph.specs.NeededFirstSteady.{IsSized, Steady}
use Rattle.uc_graph.proofs.NeededFirstHas.{nothing, either_way, has_split, has_left, has_right, has_not_left, has_not, has_one, has_cons, has_other, other_pushed, has_place, each_after_push, in_order_none, replicate_at, place_has}
use Rattle.uc_graph.proofs.Places.{index_found, found_within, past_length}

same_or_not : (n m : ℕ) → (n ≡ m) ⊎ (n ≢ m)
same_or_not zero zero = inl refl
same_or_not zero (suc m) = inr (λ e. absurd (omega (arith, e)))
same_or_not (suc n) zero = inr (λ e. absurd (omega (arith, e)))
same_or_not (suc n) (suc m) = ⊎_elim (λ e. inl (ap suc e)) (λ k. inr (λ e. k (omega (arith, e)))) (same_or_not n m)

-- the beginning
pub starts_sized : (count : ℕ) (flags : List Bool) (passed : List ℕ) (parked : List (List ℕ)) → flags ≡ replicate count false → passed ≡ replicate count 0 → parked ≡ replicate count [] →
    (graph : List (List ℕ)) → length graph ≡ count → IsSized graph flags passed parked
starts_sized count flags passed parked f p q graph e = record {
  flag_count = ap length f ∙ length-replicate count false ∙ sym e;
  passed_count = ap length p ∙ length-replicate count 0 ∙ sym e;
  parked_count = ap length q ∙ length-replicate count [] ∙ sym e;
}

pub starts : (count : ℕ) (flags : List Bool) (passed : List ℕ) (parked : List (List ℕ)) (order : List ℕ) → flags ≡ replicate count false → passed ≡ replicate count 0 → order ≡ [] →
    (graph : List (List ℕ)) (pending : List ℕ) → length graph ≡ count → ((n : ℕ) → n < count → has pending n ≡ true) → Steady graph flags passed parked order pending
starts count flags passed parked order f p o graph pending e h =
    subst (λ ns. Steady graph flags passed parked ns pending) (sym o)
    (record {
      after = in_order_none graph;
      nodes = λ n k. nothing (sym k);
      flagged = λ n. ap (λ bs. slice_index_or bs n false) f ∙ replicate_at count n false;
      met = λ n k l. absurd (omega (arith, l, ap (λ ns. slice_index_or ns n 0) p ∙ replicate_at count n 0));
      waiting = λ n within new. inl (h n (omega (arith, within, e)));
    })

module _ (graph : List (List ℕ)) (flags : List Bool) (passed : List ℕ) (parked : List (List ℕ)) (order : List ℕ) where
  -- a node that is in the order, or that is no node
  pub skipped : (n : ℕ) (pending : List ℕ) → Steady graph flags passed parked order (n ∷ pending) → (has order n ≡ true) ⊎ (length graph ≤ n) → Steady graph flags passed parked order pending
  skipped n pending s why = record {
    after = s.after;
    nodes = s.nodes;
    flagged = s.flagged;
    met = s.met;
    waiting = λ m within new.
        ⊎_elim
        (λ h. ⊎_elim
        (λ e. ⊎_elim (λ there. nothing (sym there ∙ ap (has order) (sym e) ∙ new)) (λ past. absurd (omega (arith, past, within, e))) why)
        (λ h. inl h) (has_cons n pending m h))
        (λ h. inr h) (s.waiting m within new);
  }

  -- more of the needs of a node are known to be in the order
  pub passes : (n k : ℕ) (pending : List ℕ) → Steady graph flags passed parked order pending → n < length passed →
      ((j : ℕ) → slice_index_or passed n 0 ≤ j → j < k → slice_index_or flags (slice_index_or (needs graph n) j 0) false ≡ true) → Steady graph flags (slice_set passed n k) parked order pending
  passes n k pending s within more = record {
    after = s.after;
    nodes = s.nodes;
    flagged = s.flagged;
    met = λ m j l. ⊎_elim
        (λ e.
        let now : slice_index_or (slice_set passed n k) m 0 ≡ k = ap (λ i. slice_index_or (slice_set passed n k) i 0) e ∙ get_or-set_same passed n k 0 within in
        ap (λ i. has order (slice_index_or (needs graph i) j 0)) e ∙ both j (omega (arith, l, now)) (before j))
        (λ ne. s.met m j (let now = get_or-set_other passed n m k 0 ne in omega (arith, l, now))) (same_or_not m n);
    waiting = s.waiting;
  }
    where
      before : (j : ℕ) → (j < slice_index_or passed n 0) ⊎ (slice_index_or passed n 0 ≤ j)
      before j = below j (slice_index_or passed n 0)
        where
          below : (a b : ℕ) → (a < b) ⊎ (b ≤ a)
          below a zero = inr (omega arith)
          below zero (suc b) = inl (omega arith)
          below (suc a) (suc b) = ⊎_elim (λ x. inl (omega (arith, x))) (λ x. inr (omega (arith, x))) (below a b)

      both : (j : ℕ) → j < k → (j < slice_index_or passed n 0) ⊎ (slice_index_or passed n 0 ≤ j) → has order (slice_index_or (needs graph n) j 0) ≡ true
      both j l (inl x) = s.met n j x
      both j l (inr x) = sym (s.flagged (slice_index_or (needs graph n) j 0)) ∙ more j x l

  -- a node waits for a need
  pub parks : (n m : ℕ) (pending : List ℕ) (after : List (List ℕ)) → Steady graph flags passed parked order (n ∷ pending) → length parked ≡ length graph →
      has (needs graph n) m ≡ true → has order m ≡ false → after ≡ slice_set parked m (slice_index_or parked m [] ++ n ∷ []) → Steady graph flags passed after order pending
  parks n m pending after s count needed new is = record {
    after = s.after;
    nodes = s.nodes;
    flagged = s.flagged;
    met = s.met;
    waiting = λ i within left. ⊎_elim
        (λ h. ⊎_elim (λ e. inr (m, ap (λ x. has (needs graph x) m) e ∙ needed, new, λ l. ap (has (slice_index_or after m [])) e ∙ parked_there l)) (λ h. inl h) (has_cons n pending i h))
        (λ h. inr (h.0, h.1, h.2, λ l. grown h.0 i l (h.3 l))) (s.waiting i within left);
  }
    where
      now : m < length graph → slice_index_or after m [] ≡ slice_index_or parked m [] ++ n ∷ []
      now l = ap (λ ls. slice_index_or ls m []) is ∙ get_or-set_same parked m (slice_index_or parked m [] ++ n ∷ []) [] (omega (arith, l, count))

      parked_there : m < length graph → has (slice_index_or after m []) n ≡ true
      parked_there l = ap (λ ns. has ns n) (now l) ∙ has_right (slice_index_or parked m []) (n ∷ []) n (has_one n)

      grown : (k i : ℕ) → k < length graph → has (slice_index_or parked k []) i ≡ true → has (slice_index_or after k []) i ≡ true
      grown k i l h = ⊎_elim
          (λ e.
          let lm : m < length graph = omega (arith, l, e) in
          ap (λ x. has (slice_index_or after x []) i) e ∙ ap (λ ns. has ns i) (now lm)
          ∙ has_left (slice_index_or parked m []) (n ∷ []) i (ap (λ x. has (slice_index_or parked x []) i) (sym e) ∙ h))
          (λ ne. ap (λ ls. has (slice_index_or ls k []) i) is ∙ ap (λ ns. has ns i) (get_or-set_other parked m k (slice_index_or parked m [] ++ n ∷ []) [] ne) ∙ h) (same_or_not k m)

  -- a node is put into the order, and those that wait for it are woken
  pub settles : (n : ℕ) (pending : List ℕ) → Steady graph flags passed parked order (n ∷ pending) → n < length graph → length flags ≡ length graph → slice_index_or flags n false ≡ false →
      ((m : ℕ) → has (needs graph n) m ≡ true → has order m ≡ true) → Steady graph (slice_set flags n true) passed parked (order ++ n ∷ []) (pending ++ slice_index_or parked n [])
  settles n pending s within count unset met = record {
    after = each_after_push graph [] order order n refl s.after new met;
    nodes = λ m h. ⊎_elim (λ x. s.nodes m x) (λ x. ⊎_elim (λ e. omega (arith, e, within)) (λ z. nothing (sym z)) (has_cons n [] m x)) (has_split order (n ∷ []) m h);
    flagged = λ m. ⊎_elim
        (λ e.
        ap (λ i. slice_index_or (slice_set flags n true) i false) e ∙ get_or-set_same flags n true false (omega (arith, within, count))
        ∙ sym (has_right order (n ∷ []) n (has_one n)) ∙ ap (has (order ++ n ∷ [])) (sym e))
        (λ ne. get_or-set_other flags n m true false ne ∙ s.flagged m ∙ unchanged m ne (either_way (has order m))) (same_or_not m n);
    met = λ m k l. has_left order (n ∷ []) (slice_index_or (needs graph m) k 0) (s.met m k l);
    waiting = λ m l left. ⊎_elim
        (λ h. ⊎_elim (λ e. absurd (other_pushed order n m left e)) (λ h. inl (has_left pending (slice_index_or parked n []) m h)) (has_cons n pending m h))
        (λ h. ⊎_elim
        (λ e. inl (has_right pending (slice_index_or parked n []) m (ap (λ i. has (slice_index_or parked i []) m) (sym e) ∙ h.3 (omega (arith, e, within)))))
        (λ ne. inr (h.0, h.1, has_not order (n ∷ []) h.0 h.2 (has_other h.0 n ne), h.3)) (same_or_not h.0 n))
        (s.waiting m l (has_not_left order (n ∷ []) m left));
  }
    where
      new : has order n ≡ false
      new = sym (s.flagged n) ∙ unset

      unchanged : (m : ℕ) → m ≢ n → (has order m ≡ true) ⊎ (has order m ≡ false) → has order m ≡ has (order ++ n ∷ []) m
      unchanged m ne (inl x) = x ∙ sym (has_left order (n ∷ []) m x)
      unchanged m ne (inr x) = x ∙ sym (has_not order (n ∷ []) m x (has_other m n ne))

-- no node waits for its turn any more
ends_none : (graph : List (List ℕ)) (flags : List Bool) (passed : List ℕ) (parked : List (List ℕ)) (order : List ℕ) → Steady graph flags passed parked order [] → IsNeededFirst graph order
ends_none graph flags passed parked order s = record {
  after = s.after;
  nodes = s.nodes;
  left = λ n within new. ⊎_elim (λ h. nothing (sym h)) (λ h. (h.0, h.1, h.2)) (s.waiting n within new);
}

-- the needs of a node at which the walk over them has ended
pub all_met : (flags : List Bool) (order ns : List ℕ) (k start : ℕ) → ((n : ℕ) → slice_index_or flags n false ≡ has order n) → length ns ≤ k →
    ((j : ℕ) → j < start → has order (slice_index_or ns j 0) ≡ true) → ((j : ℕ) → start ≤ j → j < k → slice_index_or flags (slice_index_or ns j 0) false ≡ true) →
    (m : ℕ) → has ns m ≡ true → has order m ≡ true
all_met flags order ns k start flagged past before more m h =
    let p = has_place ns m h in
    ap (has order) (sym p.2) ∙ by p.0 p.1 (below p.0 start)
  where
    below : (a b : ℕ) → (a < b) ⊎ (b ≤ a)
    below a zero = inr (omega arith)
    below zero (suc b) = inl (omega arith)
    below (suc a) (suc b) = ⊎_elim (λ x. inl (omega (arith, x))) (λ x. inr (omega (arith, x))) (below a b)

    by : (j : ℕ) → j < length ns → (j < start) ⊎ (start ≤ j) → has order (slice_index_or ns j 0) ≡ true
    by j l (inl x) = before j x
    by j l (inr x) = sym (flagged (slice_index_or ns j 0)) ∙ more j x (omega (arith, l, past))

moved : (graph : List (List ℕ)) (flags flags' : List Bool) (passed passed' : List ℕ) (parked parked' : List (List ℕ)) (order order' pending pending' : List ℕ) →
    flags' ≡ flags → passed' ≡ passed → parked' ≡ parked → order' ≡ order → pending' ≡ pending → Steady graph flags passed parked order pending → Steady graph flags' passed' parked' order' pending'
moved graph flags flags' passed passed' parked parked' order order' pending pending' a b c d e s =
    subst (λ x. Steady graph x passed' parked' order' pending') (sym a)
    (subst (λ x. Steady graph flags x parked' order' pending') (sym b)
    (subst (λ x. Steady graph flags passed x order' pending') (sym c)
    (subst (λ x. Steady graph flags passed parked x pending') (sym d)
    (subst (λ x. Steady graph flags passed parked order x) (sym e) s))))

module _ (graph : List (List ℕ)) (flags flags' : List Bool) (passed passed' : List ℕ) (parked parked' : List (List ℕ)) (order order' : List ℕ) (ns woken woken' : List ℕ) (n k : ℕ) where
  -- what is known of a node and its needs, up to the place where the walk over them ended
  pub record Turn : Type 0 where
    pub there : Some ns ≡ slice_get graph n
    pub sized : IsSized graph flags passed parked
    pub unset : slice_index_or flags n false ≡ false
    pub more : (j : ℕ) → slice_index_or passed n 0 ≤ j → j < k → slice_index_or flags (slice_index_or ns j 0) false ≡ true
    pub passed_is : passed' ≡ slice_set passed n k

  its_needs : Turn → ns ≡ needs graph n
  its_needs t = index_found graph n ns [] t.there

  walked : Turn → (pending : List ℕ) → Steady graph flags passed parked order pending → Steady graph flags passed' parked order pending
  walked t pending s =
      moved graph flags flags (slice_set passed n k) passed' parked parked order order pending pending refl t.passed_is refl refl refl
      (passes graph flags passed parked order n k pending s (omega (arith, found_within graph n ns t.there, t.sized.passed_count))
      (λ j l u. ap (λ xs. slice_index_or flags (slice_index_or xs j 0) false) (sym (its_needs t)) ∙ t.more j l u))

  pub turn_parks : Turn → (m : ℕ) → Some m ≡ slice_get ns k → (k < length ns → slice_index_or flags (slice_index_or ns k 0) false ≡ false) →
      flags' ≡ flags → order' ≡ order → parked' ≡ slice_set parked m (slice_index_or parked m [] ++ n ∷ []) →
      (rest : List ℕ) → Steady graph flags passed parked order (n ∷ (rest ++ woken)) → Steady graph flags' passed' parked' order' (rest ++ woken)
  turn_parks t m at unmet f o is rest s =
      let open_there = index_found ns k m 0 at in
      moved graph flags flags' passed' passed' parked' parked' order order' (rest ++ woken) (rest ++ woken) f refl refl o refl
      (parks graph flags passed' parked order n m (rest ++ woken) parked' (walked t (n ∷ (rest ++ woken)) s) t.sized.parked_count
      (ap (λ xs. has xs m) (sym (its_needs t)) ∙ place_has ns k m (sym at))
      (sym (s.flagged m) ∙ ap (λ i. slice_index_or flags i false) open_there ∙ unmet (found_within ns k m at)) is)

  pub turn_settles : Turn → None ≡ slice_get ns k → flags' ≡ slice_set flags n true → parked' ≡ parked → order' ≡ order ++ n ∷ [] → woken' ≡ woken ++ slice_index_or parked n [] →
      (rest : List ℕ) → Steady graph flags passed parked order (n ∷ (rest ++ woken)) → Steady graph flags' passed' parked' order' (rest ++ woken')
  turn_settles t past f q o w rest s =
      moved graph (slice_set flags n true) flags' passed' passed' parked parked' (order ++ n ∷ []) order' ((rest ++ woken) ++ slice_index_or parked n []) (rest ++ woken') f refl q o
      (ap (λ xs. rest ++ xs) w ∙ sym (append_assoc rest woken (slice_index_or parked n [])))
      (settles graph flags passed' parked order n (rest ++ woken) (walked t (n ∷ (rest ++ woken)) s) (found_within graph n ns t.there) t.sized.flag_count t.unset
      (λ m h. all_met flags order ns k (slice_index_or passed n 0) s.flagged (past_length ns k past)
      (λ j l. ap (λ xs. has order (slice_index_or xs j 0)) (its_needs t) ∙ s.met n j l) t.more m (ap (λ xs. has xs m) (its_needs t) ∙ h)))

pub on_ok : {T E : Type 0} (r : Result T E) (P Q : Type 0) → (P → Q) → OnOk r P → OnOk r Q
on_ok (Ok x) P Q f h = f h
on_ok (Err e) P Q f h = h

pub on_ok_both : {T E : Type 0} (r : Result T E) (P Q R : Type 0) → (P → Q → R) → OnOk r P → OnOk r Q → OnOk r R
on_ok_both (Ok x) P Q R f h k = f h k
on_ok_both (Err e) P Q R f h k = h

pub turned : (P : List ℕ → Type 0) (ready woken : List ℕ) (k d : ℕ) → k < length ready → P (drop k ready ++ woken) → P (get_or ready k d ∷ (drop (k + 1) ready ++ woken))
turned P ready woken k d within h = subst P (ap (λ ns. ns ++ woken) (drop_more ready k d within)) h

pub on_ok_three : {T E : Type 0} (r : Result T E) (P Q R S : Type 0) → (P → Q → R → S) → OnOk r P → OnOk r Q → OnOk r R → OnOk r S
on_ok_three (Ok x) P Q R S f h k l = f h k l
on_ok_three (Err e) P Q R S f h k l = h

empty : (ns : List ℕ) → length ns ≤ 0 → ns ≡ []
empty [] h = refl
empty (n ∷ ns) h = absurd (omega (arith, h))

pub ends : (graph : List (List ℕ)) (flags : List Bool) (passed : List ℕ) (parked : List (List ℕ)) (order ready : List ℕ) → Steady graph flags passed parked order ready → length ready ≤ 0 → IsNeededFirst graph order
ends graph flags passed parked order ready s h = ends_none graph flags passed parked order (subst (Steady graph flags passed parked order) (empty ready h) s)
