-- The turns of places.
use Rattle.std.proofs.Common.{◌≡◌, ℕ, suc, ◌+◌, ◌<◌, ◌≤◌, Bool, true, false, List, [], ◌∷◌, ◌++◌, length, refl, sym, ap, ◌∙◌, subst, arith, ◌⊎◌, inl, inr, ⊎_elim, Some, None, get_or-set_other, get_or-set_same, append_assoc, length-append}
use Rattle.std.specs.Prelude.{slice_index_or, slice_set, replicate, not, nat_eq, ◌||◌, if◌then◌else◌}
use Rattle.std.specs.List.{list_all}
use Rattle.std.proofs.lemmas.List.{length-replicate}
use Rattle.uc_graph.specs.Order.{has, needs}
use Rattle.uc_graph.specs.Arranged.{first_free, arranged_in, arranged, in_order}
use Rattle.uc_graph.specs.Places.{numbers_from, Follows, IsPlaced}
use Rattle.uc_graph.specs.FirstFreeSteady.{IsOpen, open_from, Waits, IsSized, Steady, IsNext, AllWait, IsSoFar}
use Rattle.uc_graph.proofs.Arranged.{arranged_on, ordered_on, arranged_stuck, ordered_stuck}
use Rattle.uc_graph.proofs.FirstFreeHas.{nothing, same, same_or_not, or_left, or_right, has_cons, has_first, has_right, has_left, has_split, has_others, all_of, not_all}
use Rattle.uc_graph.proofs.Open.{open_within, all_open, numbers_count, open_is_listed, listed_is_open, Split, split_at}

-- ---- the beginning

pub starts : (count : ℕ) (flags : List Bool) (waiting : List (List ℕ)) (ready : List ℕ) → flags ≡ replicate count false → waiting ≡ replicate count [] → ((n : ℕ) → n < count → has ready n ≡ true)
    → (graph : List (List ℕ)) → length graph ≡ count → Steady graph flags waiting ready
starts count flags waiting ready f w r graph e = record {
  sized = record { flag_count = ap length f ∙ length-replicate count false ∙ sym e; list_count = ap length w ∙ length-replicate count [] ∙ sym e };
  turns = λ n o. inl (r n (omega (arith, open_within flags n o, ap length f, length-replicate count false)));
}

pub starts_empty : (count : ℕ) (flags : List Bool) (order : List ℕ) → flags ≡ replicate count false → order ≡ [] → (graph : List (List ℕ)) → length graph ≡ count → IsSoFar graph flags order
starts_empty count flags order f o graph e =
    let left : open_from 0 flags ≡ numbers_from 0 (length graph) = ap (open_from 0) f ∙ all_open count 0 ∙ ap (numbers_from 0) (sym e) in
    record {
      counted = omega (arith, ap length o, ap length left, numbers_count (length graph) 0);
      arranges = λ goes h. ap (arranged goes) (sym left) ∙ ap (λ ns. ns ++ arranged goes (open_from 0 flags)) (sym o);
      orders = λ goes h. ap (λ ns. in_order goes (arranged goes ns)) (sym left);
    }

-- ---- a turn

module _ (graph : List (List ℕ)) (flags : List Bool) where
  -- a place that was taken, and is in the order or no place
  pub skips : (waiting : List (List ℕ)) (ready rest : List ℕ) (n : ℕ) → Steady graph flags waiting ready → ready ≡ n ∷ rest → slice_index_or flags n true ≡ true → Steady graph flags waiting rest
  skips waiting ready rest n s is closed = record {
    sized = s.sized;
    turns = λ m o. ⊎_elim
        (λ h. ⊎_elim (λ e. nothing (sym closed ∙ ap (λ k. slice_index_or flags k true) (sym e) ∙ o)) (λ r. inl r) (has_cons n rest m (sym (ap (λ ns. has ns m) is) ∙ h)))
        (λ w. inr w) (s.turns m o);
  }

  now_listed : (waiting after : List (List ℕ)) (need n : ℕ) → need < length waiting → after ≡ slice_set waiting need (slice_index_or waiting need [] ++ n ∷ []) → slice_index_or after need [] ≡ slice_index_or waiting need [] ++ n ∷ []
  now_listed waiting after need n l is = ap (λ ls. slice_index_or ls need []) is ∙ get_or-set_same waiting need (slice_index_or waiting need [] ++ n ∷ []) [] l

  still_listed : (waiting after : List (List ℕ)) (need n k m : ℕ) → need < length waiting → after ≡ slice_set waiting need (slice_index_or waiting need [] ++ n ∷ []) → has (slice_index_or waiting k []) m ≡ true → has (slice_index_or after k []) m ≡ true
  still_listed waiting after need n k m l is h = ⊎_elim
      (λ e. ap (λ j. has (slice_index_or after j []) m) e ∙ ap (λ ns. has ns m) (now_listed waiting after need n l is)
      ∙ has_left (slice_index_or waiting need []) (n ∷ []) m (ap (λ j. has (slice_index_or waiting j []) m) (sym e) ∙ h))
      (λ ne. ap (λ ls. has (slice_index_or ls k []) m) is ∙ ap (λ ns. has ns m) (get_or-set_other waiting need k (slice_index_or waiting need [] ++ n ∷ []) [] ne) ∙ h)
      (same_or_not k need)

  waits_on : (waiting after : List (List ℕ)) (need n m : ℕ) → need < length waiting → after ≡ slice_set waiting need (slice_index_or waiting need [] ++ n ∷ []) → Waits graph flags waiting m → Waits graph flags after m
  waits_on waiting after need n m l is w = record {
    need = w.need;
    needed = w.needed;
    open_need = w.open_need;
    another = w.another;
    listed = still_listed waiting after need n w.need m l is w.listed;
  }

  -- a place that was taken waits for a need
  pub parks : (waiting after : List (List ℕ)) (ready rest : List ℕ) (n need : ℕ) → Steady graph flags waiting ready → ready ≡ n ∷ rest → has (needs graph n) need ≡ true → (need ≡ n → ⊥) → IsOpen flags need
      → after ≡ slice_set waiting need (slice_index_or waiting need [] ++ n ∷ []) → length after ≡ length waiting → Steady graph flags after rest
  parks waiting after ready rest n need s is needed another open_need added even =
      let l : need < length waiting = omega (arith, open_within flags need open_need, s.sized.flag_count, s.sized.list_count) in
      record {
        sized = record { flag_count = s.sized.flag_count; list_count = even ∙ s.sized.list_count };
        turns = λ m o. ⊎_elim
            (λ h. ⊎_elim
            (λ e. inr (record {
              need = need;
              needed = ap (λ k. has (needs graph k) need) e ∙ needed;
              open_need = open_need;
              another = λ k. another (k ∙ e);
              listed = ap (λ ns. has ns m) (now_listed waiting after need n l added) ∙ has_right (slice_index_or waiting need []) (n ∷ []) m (ap (λ k. has (n ∷ []) k) e ∙ has_first n []);
            }))
            (λ r. inl r) (has_cons n rest m (sym (ap (λ ns. has ns m) is) ∙ h)))
            (λ w. inr (waits_on waiting after need n m l added w)) (s.turns m o);
      }

  -- a place that was taken needs no open one
  pub finds : (waiting : List (List ℕ)) (ready rest : List ℕ) (n : ℕ) → Steady graph flags waiting ready → ready ≡ n ∷ rest → ((m : ℕ) → has rest m ≡ true → n < m) → IsOpen flags n
      → ((m : ℕ) → has (needs graph n) m ≡ true → (m ≡ n → ⊥) → slice_index_or flags m true ≡ true) → IsNext graph flags waiting rest n
  finds waiting ready rest n s is least o met = record {
    sized = s.sized;
    free = o;
    met = met;
    turns = λ m k. ⊎_elim (λ h. ⊎_elim (λ e. inl e) (λ r. inr (inl (r, least m r))) (has_cons n rest m (sym (ap (λ ns. has ns m) is) ∙ h))) (λ w. inr (inr w)) (s.turns m k);
  }

  -- none may be free
  pub all_wait : (waiting : List (List ℕ)) (ready : List ℕ) → Steady graph flags waiting ready → ready ≡ [] → AllWait graph flags waiting
  all_wait waiting ready s is = record { sized = s.sized; waits = λ n o. ⊎_elim (λ h. nothing (sym h ∙ ap (λ ns. has ns n) is)) (λ w. w) (s.turns n o) }

-- ---- a place is put into the order

-- Numbers that are passed over.
passes : (goes : ℕ → ℕ → Bool) (passed front behind : List ℕ) (x : ℕ) → ((n : ℕ) → has front n ≡ true → (m : ℕ) × (has (passed ++ (front ++ x ∷ behind)) m ≡ true) × (m ≡ n → ⊥) × (goes n m ≡ false)) → list_all (goes x) ((passed ++ front) ++ behind) ≡ true
    → first_free goes passed (front ++ x ∷ behind) ≡ Some (x, (passed ++ front) ++ behind)
unfolding first_free
passes goes passed [] behind x h k =
    let e : (passed ++ []) ++ behind ≡ passed ++ behind = append_assoc passed [] behind in
    ap (λ b. if b then Some (x, passed ++ behind) else first_free goes (passed ++ x ∷ []) behind) (sym (ap (list_all (goes x)) e) ∙ k)
    ∙ ap (λ ns. Some (x, ns)) (sym e)
passes goes passed (f ∷ front) behind x h k =
    let w = h f (has_first f front) in
    let moved : (passed ++ f ∷ []) ++ front ≡ passed ++ f ∷ front = append_assoc passed (f ∷ []) front in
    ap (λ b. if b then Some (f, passed ++ (front ++ x ∷ behind)) else first_free goes (passed ++ f ∷ []) (front ++ x ∷ behind))
    (not_all (goes f) (passed ++ (front ++ x ∷ behind)) w.0 (has_others passed (front ++ x ∷ behind) f w.0 w.1 w.2) w.3)
    ∙ passes goes (passed ++ f ∷ []) front behind x
    (λ n r. let v = h n (or_right _ _ r) in (v.0, ap (λ ns. has ns v.0) (append_assoc passed (f ∷ []) (front ++ x ∷ behind)) ∙ v.1, v.2, v.3))
    (ap (λ ns. list_all (goes x) (ns ++ behind)) moved ∙ k)
    ∙ ap (λ ns. Some (x, ns ++ behind)) moved

all_pass : (goes : ℕ → ℕ → Bool) (passed xs : List ℕ) → ((n : ℕ) → has xs n ≡ true → (m : ℕ) × (has (passed ++ xs) m ≡ true) × (m ≡ n → ⊥) × (goes n m ≡ false)) → first_free goes passed xs ≡ None
unfolding first_free
all_pass goes passed [] h = refl
all_pass goes passed (f ∷ xs) h =
    let w = h f (has_first f xs) in
    ap (λ b. if b then Some (f, passed ++ xs) else first_free goes (passed ++ f ∷ []) xs) (not_all (goes f) (passed ++ xs) w.0 (has_others passed xs f w.0 w.1 w.2) w.3)
    ∙ all_pass goes (passed ++ f ∷ []) xs (λ n r. let v = h n (or_right _ _ r) in (v.0, ap (λ ns. has ns v.0) (append_assoc passed (f ∷ []) xs) ∙ v.1, v.2, v.3))

module _ (graph : List (List ℕ)) (flags : List Bool) (waiting : List (List ℕ)) where
  -- a place that waits may not go first
  within : IsSized graph flags waiting → (n : ℕ) → IsOpen flags n → n < length graph
  within z n o = omega (arith, open_within flags n o, z.flag_count)

  blocked : IsSized graph flags waiting → (goes : ℕ → ℕ → Bool) → Follows graph goes → (n : ℕ) → IsOpen flags n → Waits graph flags waiting n → (m : ℕ) × (has (open_from 0 flags) m ≡ true) × (m ≡ n → ⊥) × (goes n m ≡ false)
  blocked z goes f n o w = (
    w.need,
    ap (has (open_from 0 flags)) (omega arith) ∙ open_is_listed flags 0 w.need w.open_need,
    w.another,
    f n w.need (within z n o) (within z w.need w.open_need) (λ e. w.another (sym e)) ∙ ap not w.needed,
  )

  open_of : (m : ℕ) → has (open_from 0 flags) m ≡ true → IsOpen flags m
  open_of m h = let a = listed_is_open flags 0 m h in ap (λ k. slice_index_or flags k true) (omega (arith, a.1)) ∙ a.2

  -- the next one is the first free one
  pub is_first : (ready : List ℕ) (x : ℕ) → IsNext graph flags waiting ready x → (goes : ℕ → ℕ → Bool) → Follows graph goes → first_free goes [] (open_from 0 flags) ≡ Some (x, open_from 0 (slice_set flags x true))
  is_first ready x s goes f =
      let t = split_at flags 0 x s.free in
      let whole : open_from 0 flags ≡ t.front ++ x ∷ t.behind = t.whole ∙ ap (λ k. t.front ++ k ∷ t.behind) (omega arith) in
      ap (first_free goes []) whole
      ∙ passes goes [] t.front t.behind x
      (λ n r. let below = t.below n r in
      let o = open_of n (ap (λ ns. has ns n) whole ∙ has_left t.front (x ∷ t.behind) n r) in
      let v = blocked s.sized goes f n o (waits n o (omega (arith, below))) in (v.0, sym (ap (λ ns. has ns v.0) whole) ∙ v.1, v.2, v.3))
      (all_of (goes x) (t.front ++ t.behind) (λ m r. goes_first m (apart t m r) (open_of m (ap (λ ns. has ns m) whole ∙ among t m r))))
      ∙ ap (λ ns. Some (x, ns)) (sym t.others)
    where
      waits : (n : ℕ) → IsOpen flags n → n < x → Waits graph flags waiting n
      waits n o l = ⊎_elim (λ e. absurd (omega (arith, e, l))) (λ r. ⊎_elim (λ q. absurd (omega (arith, q.1, l))) (λ w. w) r) (s.turns n o)

      apart : (t : Split flags 0 x) (m : ℕ) → has (t.front ++ t.behind) m ≡ true → x ≡ m → ⊥
      apart t m r e = ⊎_elim (λ q. omega (arith, t.below m q, e)) (λ q. omega (arith, t.above m q, e)) (has_split t.front t.behind m r)

      among : (t : Split flags 0 x) (m : ℕ) → has (t.front ++ t.behind) m ≡ true → has (t.front ++ x ∷ t.behind) m ≡ true
      among t m r = ⊎_elim (λ q. has_left t.front (x ∷ t.behind) m q) (λ q. has_right t.front (x ∷ t.behind) m (or_right (nat_eq m x) (has t.behind m) q)) (has_split t.front t.behind m r)

      goes_first : (m : ℕ) → (x ≡ m → ⊥) → IsOpen flags m → goes x m ≡ true
      goes_first m ne o = by_need (has (needs graph x) m) refl
        where
          by_need : (b : Bool) → has (needs graph x) m ≡ b → goes x m ≡ true
          by_need true e = nothing (sym (s.met m e (λ k. ne (sym k))) ∙ o)
          by_need false e = f x m (within s.sized x s.free) (within s.sized m o) ne ∙ ap not e

  -- the order with the next one
  pub goes_on : (order more : List ℕ) (after : List Bool) (ready : List ℕ) (x : ℕ) → IsNext graph flags waiting ready x → IsSoFar graph flags order → after ≡ slice_set flags x true → more ≡ order ++ x ∷ [] → IsSoFar graph after more
  goes_on order more after ready x s so_far is added =
      let t = split_at flags 0 x s.free in
      let left : open_from 0 after ≡ open_from 0 (slice_set flags x true) = ap (open_from 0) is in
      let one_less : length (open_from 0 flags) ≡ suc (length (open_from 0 after)) =
      omega (arith, ap length t.whole, length-append t.front ((0 + x) ∷ t.behind), ap length left, ap length t.others, length-append t.front t.behind) in
      record {
        counted = omega (arith, so_far.counted, one_less, ap length added, length-append order (x ∷ []));
        arranges = λ goes f.
            so_far.arranges goes f
            ∙ ap (λ ns. order ++ ns)
            (ap (λ k. arranged_in goes k (open_from 0 flags)) one_less ∙ arranged_on goes (length (open_from 0 after)) (open_from 0 flags) (x, open_from 0 (slice_set flags x true)) (is_first ready x s goes f)
            ∙ ap (λ ns. x ∷ arranged_in goes (length (open_from 0 after)) ns) (sym left))
            ∙ sym (append_assoc order (x ∷ []) (arranged goes (open_from 0 after)))
            ∙ ap (λ ns. ns ++ arranged goes (open_from 0 after)) (sym added);
        orders = λ goes f.
            so_far.orders goes f
            ∙ ap (λ k. in_order goes (arranged_in goes k (open_from 0 flags))) one_less
            ∙ ordered_on goes (length (open_from 0 after)) (open_from 0 flags) (x, open_from 0 (slice_set flags x true)) (is_first ready x s goes f)
            ∙ ap (λ ns. in_order goes (arranged_in goes (length (open_from 0 after)) ns)) (sym left);
      }

  -- those that waited for it may be free
  pub wakes : (ready more : List ℕ) (after : List Bool) (lists : List (List ℕ)) (x : ℕ) → IsNext graph flags waiting ready x → after ≡ slice_set flags x true → lists ≡ waiting → length after ≡ length flags
      → ((n : ℕ) → has more n ≡ (has ready n || has (slice_index_or waiting x []) n)) → Steady graph after lists more
  wakes ready more after lists x s is same even woken = record {
    sized = record { flag_count = even ∙ s.sized.flag_count; list_count = ap length same ∙ s.sized.list_count };
    turns = λ n o.
        let ne = other n o in
        ⊎_elim (λ e. absurd (ne e)) (λ r. ⊎_elim (λ q. inl (woken n ∙ or_left (has ready n) (has (slice_index_or waiting x []) n) q.0)) (λ w. still n w (same_or_not w.need x)) r) (s.turns n (was_open n ne o));
  }
    where
      inside : x < length flags
      inside = open_within flags x s.free

      other : (n : ℕ) → IsOpen after n → n ≡ x → ⊥
      other n o e = nothing (sym (ap (λ k. slice_index_or after k true) e ∙ ap (λ bs. slice_index_or bs x true) is ∙ get_or-set_same flags x true true inside) ∙ o)

      kept : (n : ℕ) → (n ≡ x → ⊥) → slice_index_or after n true ≡ slice_index_or flags n true
      kept n ne = ap (λ bs. slice_index_or bs n true) is ∙ get_or-set_other flags x n true true ne

      was_open : (n : ℕ) → (n ≡ x → ⊥) → IsOpen after n → IsOpen flags n
      was_open n ne o = sym (kept n ne) ∙ o

      still : (n : ℕ) → (w : Waits graph flags waiting n) → (w.need ≡ x) ⊎ (w.need ≡ x → ⊥) → (has more n ≡ true) ⊎ Waits graph after lists n
      still n w (inl e) = inl (woken n ∙ or_right (has ready n) (has (slice_index_or waiting x []) n) (ap (λ k. has (slice_index_or waiting k []) n) (sym e) ∙ w.listed))
      still n w (inr ne) = inr (record {
        need = w.need;
        needed = w.needed;
        open_need = kept w.need ne ∙ w.open_need;
        another = w.another;
        listed = ap (λ ls. has (slice_index_or ls w.need []) n) same ∙ w.listed;
      })

  -- fewer are open
  pub fewer : (after : List Bool) (ready : List ℕ) (x : ℕ) → IsNext graph flags waiting ready x → after ≡ slice_set flags x true → length (open_from 0 after) < length (open_from 0 flags)
  fewer after ready x s is =
      let t = split_at flags 0 x s.free in
      omega (arith, ap length t.whole, length-append t.front ((0 + x) ∷ t.behind), ap (λ bs. length (open_from 0 bs)) is, ap length t.others, length-append t.front t.behind)

  none_free : AllWait graph flags waiting → (goes : ℕ → ℕ → Bool) → Follows graph goes → first_free goes [] (open_from 0 flags) ≡ None
  none_free s goes f = all_pass goes [] (open_from 0 flags) (λ n r. blocked s.sized goes f n (open_of n r) (s.waits n (open_of n r)))

  -- all are in the order
  pub ends : (order : List ℕ) → IsSoFar graph flags order → length graph ≤ length order → IsPlaced graph (Some order)
  unfolding arranged_in in_order
  ends order s l = λ goes f. (
    s.arranges goes f ∙ ap (λ ns. order ++ arranged goes ns) (none_left (open_from 0 flags) s.counted) ∙ append_none order,
    ordered goes f,
  )
    where
      none_left : (ns : List ℕ) → length order + length ns ≡ length graph → ns ≡ []
      none_left [] e = refl
      none_left (n ∷ ns) e = absurd (omega (arith, e, l))

      append_none : (xs : List ℕ) → xs ++ [] ≡ xs
      append_none [] = refl
      append_none (x ∷ xs) = ap (λ ys. x ∷ ys) (append_none xs)

      ordered : (goes : ℕ → ℕ → Bool) → Follows graph goes → in_order goes order ≡ true
      ordered goes f =
          ap (in_order goes) (sym (s.arranges goes f ∙ ap (λ ns. order ++ arranged goes ns) (none_left (open_from 0 flags) s.counted) ∙ append_none order))
          ∙ s.orders goes f ∙ ap (λ ns. in_order goes (arranged goes ns)) (none_left (open_from 0 flags) s.counted)

  -- some are left
  pub ends_stuck : (order : List ℕ) → IsSoFar graph flags order → AllWait graph flags waiting → length order < length graph → IsPlaced graph None
  ends_stuck order s a l = λ goes f.
      s.orders goes f ∙ ap (in_order goes) (arranged_stuck goes (length (open_from 0 flags)) (open_from 0 flags) (none_free a goes f))
      ∙ some_left goes (open_from 0 flags) s.counted (none_free a goes f)
    where
      some_left : (goes : ℕ → ℕ → Bool) (ns : List ℕ) → length order + length ns ≡ length graph → first_free goes [] ns ≡ None → in_order goes ns ≡ false
      some_left goes [] e h = absurd (omega (arith, e, l))
      some_left goes (n ∷ ns) e h = ordered_stuck goes n ns h

pub same_so_far : (graph : List (List ℕ)) (flags now : List Bool) (order more : List ℕ) → (now ≡ flags) × (more ≡ order) → IsSoFar graph flags order → IsSoFar graph now more
same_so_far graph flags now order more e s = subst (λ bs. IsSoFar graph bs more) (sym e.0) (subst (λ ns. IsSoFar graph flags ns) (sym e.1) s)
