-- Edges that are entered the other way round.
use Rattle.std.proofs.Common.{◌≡◌, ℕ, zero, suc, ◌+◌, ◌<◌, ◌≤◌, Bool, true, false, List, [], ◌∷◌, ◌++◌, length, take, get_or, refl, ap, sym, ◌∙◌, subst, arith, ◌⊎◌, inl, inr, ⊎_elim}
use Rattle.std.specs.Prelude.{nat_eq, ◌||◌, replicate, slice_get, slice_index_or, slice_set}
use Rattle.std.proofs.lemmas.List.{length-replicate, take_all, take_more}
use Rattle.uc_graph.specs.Order.{has, needs}
use Rattle.uc_graph.specs.Settling.{Enters, IsReversed}
use Rattle.uc_graph.proofs.Tests.{edge_within, either, equal, has_append, has_push, nothing, or_left, or_none, or_right, same}

set_cases : (us : List (List ℕ)) (p k : ℕ) (xs : List ℕ) →
    ((needs (slice_set us p xs) k ≡ needs us k) × (k ≡ p → length us ≤ p)) ⊎ ((k ≡ p) × (p < length us) × (needs (slice_set us p xs) k ≡ xs))
set_cases [] zero k xs = inl (refl, λ e. omega arith)
set_cases [] (suc p) k xs = inl (refl, λ e. omega arith)
set_cases (u ∷ us) zero zero xs = inr (refl, omega arith, refl)
set_cases (u ∷ us) zero (suc k) xs = inl (refl, λ e. absurd (omega (arith, e)))
set_cases (u ∷ us) (suc p) zero xs = inl (refl, λ e. absurd (omega (arith, e)))
set_cases (u ∷ us) (suc p) (suc k) xs =
    ⊎_elim (λ a. inl (a.0, λ e. let r = a.1 (omega (arith, e)) in omega (arith, r))) (λ b. inr (ap suc b.0, omega (arith, b.1), b.2)) (set_cases us p k xs)

length_set : (us : List (List ℕ)) (p : ℕ) (xs : List ℕ) → length (slice_set us p xs) ≡ length us
length_set [] zero xs = refl
length_set [] (suc p) xs = refl
length_set (u ∷ us) zero xs = refl
length_set (u ∷ us) (suc p) xs = ap suc (length_set us p xs)

pub enters_none : (node : ℕ) (us : List (List ℕ)) → Enters node [] us us
enters_none node us = record { size = refl; kept = λ k n h. h; only = λ k n h. inl h; there = λ k l h. nothing (sym h) }

-- one place more
pub enters_one : (node place : ℕ) (us vs : List (List ℕ)) → vs ≡ slice_set us place (slice_index_or us place [] ++ node ∷ []) → Enters node (place ∷ []) us vs
enters_one node place us vs is = subst (Enters node (place ∷ []) us) (sym is) (record {
  size = length_set us place more;
  kept = λ k n h.
      ⊎_elim (λ a. ap (λ ns. has ns n) a.0 ∙ h)
      (λ b. ap (λ ns. has ns n) b.2 ∙ has_push (needs us place) node n ∙ or_left (has (needs us place) n) (nat_eq n node) (ap (λ j. has (needs us j) n) (sym b.0) ∙ h)) (set_cases us place k more);
  only = λ k n h.
      ⊎_elim (λ a. inl (sym (ap (λ ns. has ns n) a.0) ∙ h))
      (λ b. ⊎_elim (λ old. inl (ap (λ j. has (needs us j) n) b.0 ∙ old)) (λ new. inr (equal n node new, or_left (nat_eq k place) false (ap (λ j. nat_eq j place) b.0 ∙ same place)))
      (either (has (needs us place) n) (nat_eq n node) (sym (ap (λ ns. has ns n) b.2 ∙ has_push (needs us place) node n) ∙ h))) (set_cases us place k more);
  there = λ k within h.
      let at = equal k place (sym (or_none (nat_eq k place)) ∙ h) in
      ⊎_elim (λ a. let past = a.1 at in absurd (omega (arith, past, within, at)))
      (λ b. ap (λ ns. has ns node) b.2 ∙ has_push (needs us place) node node ∙ or_right (has (needs us place) node) (nat_eq node node) (same node)) (set_cases us place k more);
})
  where
    more : List ℕ
    more = needs us place ++ node ∷ []

pub enters_two : (node : ℕ) (xs ys : List ℕ) (us vs ws : List (List ℕ)) → Enters node xs us vs → Enters node ys vs ws → Enters node (xs ++ ys) us ws
enters_two node xs ys us vs ws a b = record {
  size = b.size ∙ a.size;
  kept = λ k n h. b.kept k n (a.kept k n h);
  only = λ k n h.
      ⊎_elim
      (λ mid. ⊎_elim (λ old. inl old) (λ new. inr (new.0, has_append xs ys k ∙ or_left (has xs k) (has ys k) new.1)) (a.only k n mid))
      (λ new. inr (new.0, has_append xs ys k ∙ or_right (has xs k) (has ys k) new.1)) (b.only k n h);
  there = λ k within h.
      ⊎_elim (λ one. b.kept k node (a.there k within one)) (λ two. b.there k (omega (arith, within, a.size)) two) (either (has xs k) (has ys k) (sym (has_append xs ys k) ∙ h));
}

pub enters_more : (node : ℕ) (ns : List ℕ) (k d : ℕ) (us vs ws : List (List ℕ)) → k < length ns → Enters node (take k ns) us vs → Enters node (get_or ns k d ∷ []) vs ws → Enters node (take (k + 1) ns) us ws
enters_more node ns k d us vs ws within a b = subst (λ xs. Enters node xs us ws) (sym (take_more ns k d within)) (enters_two node (take k ns) (get_or ns k d ∷ []) us vs ws a b)

pub enters_end : (node : ℕ) (ns : List ℕ) (k : ℕ) (us vs : List (List ℕ)) → length ns ≤ k → Enters node (take k ns) us vs → Enters node ns us vs
enters_end node ns k us vs past a = subst (λ xs. Enters node xs us vs) (take_all k ns past) a

-- The edges of the first nodes are entered.
pub record ReversedTo (graph : List (List ℕ)) (count : ℕ) (back : List (List ℕ)) : Type 0 where
  pub size : length back ≡ length graph
  pub there : (x y : ℕ) → x < count → y < length graph → has (needs graph x) y ≡ true → has (needs back y) x ≡ true
  pub only : (x y : ℕ) → has (needs back y) x ≡ true → has (needs graph x) y ≡ true

replicate_at : (n k : ℕ) → needs (replicate n []) k ≡ []
replicate_at zero k = refl
replicate_at (suc n) zero = refl
replicate_at (suc n) (suc k) = replicate_at n k

pub reversed_begin : (graph back : List (List ℕ)) (count : ℕ) → count ≡ length graph → back ≡ replicate count [] → ReversedTo graph 0 back
reversed_begin graph back count is e = record {
  size = ap length e ∙ length-replicate count [] ∙ is;
  there = λ x y l m h. absurd (omega (arith, l));
  only = λ x y h. nothing (sym h ∙ ap (λ us. has (needs us y) x) e ∙ ap (λ ns. has ns x) (replicate_at count y));
}

less_or_same : (n k : ℕ) → n < k + 1 → (n < k) ⊎ (n ≡ k)
less_or_same zero zero h = inr refl
less_or_same zero (suc k) h = inl (omega arith)
less_or_same (suc n) zero h = absurd (omega (arith, h))
less_or_same (suc n) (suc k) h = ⊎_elim (λ a. inl (omega (arith, a))) (λ b. inr (ap suc b)) (less_or_same n k (omega (arith, h)))

needs_at : (graph : List (List ℕ)) (k : ℕ) (d : List ℕ) → k < length graph → get_or graph k d ≡ needs graph k
needs_at [] k d h = absurd (omega (arith, h))
needs_at (u ∷ us) zero d h = refl
needs_at (u ∷ us) (suc k) d h = needs_at us k d (omega (arith, h))

pub reversed_more : (graph back more : List (List ℕ)) (k : ℕ) (ns d : List ℕ) → k < length graph → ns ≡ get_or graph k d → ReversedTo graph k back → Enters k ns back more → ReversedTo graph (k + 1) more
reversed_more graph back more k ns d within at r e = record {
  size = e.size ∙ r.size;
  there = λ x y l m h.
      ⊎_elim (λ before. e.kept y x (r.there x y before m h))
      (λ now.
      let edge : has ns y ≡ true = ap (λ xs. has xs y) (at ∙ needs_at graph k d within) ∙ ap (λ j. has (needs graph j) y) (sym now) ∙ h in
      ap (has (needs more y)) now ∙ e.there y (omega (arith, m, r.size)) edge)
      (less_or_same x k l);
  only = λ x y h.
      ⊎_elim (λ old. r.only x y old)
      (λ new. ap (λ j. has (needs graph j) y) new.0 ∙ ap (λ xs. has xs y) (sym (at ∙ needs_at graph k d within)) ∙ new.1) (e.only y x h);
}

pub reversed_end : (graph back : List (List ℕ)) (k : ℕ) → length graph ≤ k → ReversedTo graph k back → IsReversed graph back
reversed_end graph back k past r = record {
  there = λ x y m h. r.there x y (let l = edge_within graph x y h in omega (arith, l, past)) m h;
  only = r.only;
}
