-- Numbers that are among some, and flags.
use Rattle.std.proofs.Common.{◌≡◌, ℕ, zero, suc, ◌+◌, ◌<◌, Bool, true, false, List, [], ◌∷◌, ◌++◌, length, take, get_or, refl, ap, sym, ◌∙◌, arith, ⊎_elim}
use Rattle.std.specs.Prelude.{nat_eq, not, ◌&&◌, ◌||◌, slice_index_or, slice_set}
use Rattle.std.specs.List.{list_any}
use Rattle.std.proofs.lemmas.List.{take_more}
use Rattle.std.proofs.lemmas.List.Folds.{list_any-append}
use Rattle.uc_graph.specs.Order.{has, needs}
use Rattle.uc_graph.specs.Reached.{is_left}
use Rattle.uc_graph.specs.Taking.{left_count, edge_from}
use Rattle.uc_graph.proofs.Bools.{nothing, either, or_left, or_right, or_none, and_none, and_all}

same : (n : ℕ) → nat_eq n n ≡ true
same n = grind arith

pub equal : (n m : ℕ) → nat_eq n m ≡ true → n ≡ m
equal n m h = grind (arith, h)

pub has_append : (a b : List ℕ) (n : ℕ) → has (a ++ b) n ≡ (has a n || has b n)
has_append a b n = list_any-append (nat_eq n) a b

pub has_push : (a : List ℕ) (x n : ℕ) → has (a ++ x ∷ []) n ≡ (has a n || nat_eq n x)
has_push a x n = has_append a (x ∷ []) n ∙ ap (λ b. has a n || b) (sym (or_none (nat_eq n x)))

pub has_more : (ns : List ℕ) (k d n : ℕ) → k < length ns → has (take (k + 1) ns) n ≡ (has (take k ns) n || nat_eq n (get_or ns k d))
has_more ns k d n within = ap (λ xs. has xs n) (take_more ns k d within) ∙ has_push (take k ns) (get_or ns k d) n

pub edge_more : (graph : List (List ℕ)) (ns : List ℕ) (k d m : ℕ) → k < length ns → edge_from graph (take (k + 1) ns) m ≡ (edge_from graph (take k ns) m || has (needs graph (get_or ns k d)) m)
edge_more graph ns k d m within =
    ap (λ xs. edge_from graph xs m) (take_more ns k d within)
    ∙ list_any-append (λ n. has (needs graph n) m) (take k ns) (get_or ns k d ∷ [])
    ∙ ap (λ b. edge_from graph (take k ns) m || b) (sym (or_none (has (needs graph (get_or ns k d)) m)))

never_first : (n : ℕ) → nat_eq (suc n) 0 ≡ false
never_first n = grind arith

first_never : (n : ℕ) → nat_eq 0 (suc n) ≡ false
first_never n = grind arith

both_later : (n k : ℕ) → nat_eq n k ≡ nat_eq (suc n) (suc k)
both_later n k = grind arith

pub left_set : (bs : List Bool) (k n : ℕ) → is_left (slice_set bs k false) n ≡ (is_left bs n && not (nat_eq n k))
left_set [] zero n = refl
left_set [] (suc k) n = refl
left_set (b ∷ bs) zero zero = sym (and_none b)
left_set (b ∷ bs) zero (suc n) = and_all (is_left bs n) ∙ sym (ap (λ c. is_left bs n && not c) (never_first n))
left_set (b ∷ bs) (suc k) zero = and_all b ∙ sym (ap (λ c. b && not c) (first_never k))
left_set (b ∷ bs) (suc k) (suc n) = left_set bs k n ∙ ap (λ c. is_left bs n && not c) (both_later n k)

pub length_set : (bs : List Bool) (k : ℕ) → length (slice_set bs k false) ≡ length bs
length_set [] zero = refl
length_set [] (suc k) = refl
length_set (b ∷ bs) zero = refl
length_set (b ∷ bs) (suc k) = ap suc (length_set bs k)

pub count_set : (bs : List Bool) (k : ℕ) → is_left bs k ≡ true → left_count (slice_set bs k false) + 1 ≡ left_count bs
unfolding left_count
count_set [] k h = nothing (sym h)
count_set (true ∷ bs) zero h = omega arith
count_set (false ∷ bs) zero h = nothing (sym h)
count_set (true ∷ bs) (suc k) h = omega (arith, count_set bs k h)
count_set (false ∷ bs) (suc k) h = count_set bs k h

-- from a node of some an edge leads to each that one leads to
pub edge_there : (graph : List (List ℕ)) (ns : List ℕ) (n m : ℕ) → has ns n ≡ true → has (needs graph n) m ≡ true → edge_from graph ns m ≡ true
edge_there graph [] n m h e = nothing (sym h)
edge_there graph (x ∷ ns) n m h e =
    ⊎_elim
    (λ is. or_left (has (needs graph x) m) (edge_from graph ns m) (ap (λ y. has (needs graph y) m) (sym (equal n x is)) ∙ e))
    (λ later. or_right (has (needs graph x) m) (edge_from graph ns m) (edge_there graph ns n m later e))
    (either (nat_eq n x) (has ns n) h)

-- and there is such a node
pub edge_by : (graph : List (List ℕ)) (ns : List ℕ) (m : ℕ) → edge_from graph ns m ≡ true → (n : ℕ) × (has ns n ≡ true) × (has (needs graph n) m ≡ true)
edge_by graph [] m h = nothing (sym h)
edge_by graph (x ∷ ns) m h =
    ⊎_elim
    (λ here. (x, or_left (nat_eq x x) (has ns x) (same x), here))
    (λ later. let r = edge_by graph ns m later in (r.0, or_right (nat_eq r.0 x) (has ns r.0) r.1, r.2))
    (either (has (needs graph x) m) (edge_from graph ns m) h)
