-- Flags that are set and cleared.
use Rattle.std.proofs.Common.{◌≡◌, ℕ, zero, suc, ◌+◌, ◌<◌, ◌≤◌, Bool, true, false, List, [], ◌∷◌, ◌++◌, length, take, get_or, refl, ap, sym, ◌∙◌, subst, arith}
use Rattle.std.specs.Prelude.{nat_eq, nat_lt, not, ◌&&◌, ◌||◌, replicate, slice_set}
use Rattle.std.proofs.lemmas.List.{take_all, take_more}
use Rattle.uc_graph.specs.Order.{has}
use Rattle.uc_graph.specs.Reached.{is_left}
use Rattle.uc_graph.specs.Settling.{Clears, Sets}
use Rattle.uc_graph.proofs.Tests.{and_all, and_none, below, equal, flag_within, has_push, nothing, or_none, spread, two_clears, two_sets}

length_set : (bs : List Bool) (k : ℕ) (b : Bool) → length (slice_set bs k b) ≡ length bs
length_set [] zero b = refl
length_set [] (suc k) b = refl
length_set (c ∷ bs) zero b = refl
length_set (c ∷ bs) (suc k) b = ap suc (length_set bs k b)

never_first : (n : ℕ) → nat_eq (suc n) 0 ≡ false
never_first n = grind arith

first_never : (n : ℕ) → nat_eq 0 (suc n) ≡ false
first_never n = grind arith

both_later : (n k : ℕ) → nat_eq n k ≡ nat_eq (suc n) (suc k)
both_later n k = grind arith

zero_below : (n : ℕ) → nat_lt 0 (suc n) ≡ true
zero_below n = grind arith

later_below : (n k : ℕ) → nat_lt n k ≡ nat_lt (suc n) (suc k)
later_below n k = grind arith

set_now : (bs : List Bool) (k n : ℕ) → k < length bs → is_left (slice_set bs k true) n ≡ (is_left bs n || (nat_eq n k && nat_lt n (length bs)))
set_now [] k n h = absurd (omega (arith, h))
set_now (b ∷ bs) zero zero h = sym (ap (λ c. b || c) (zero_below (length bs)) ∙ all b)
  where
    all : (b : Bool) → (b || true) ≡ true
    all true = refl
    all false = refl
set_now (b ∷ bs) zero (suc n) h = sym (ap (λ c. is_left bs n || (c && nat_lt (suc n) (suc (length bs)))) (never_first n) ∙ or_none (is_left bs n))
set_now (b ∷ bs) (suc k) zero h = sym (ap (λ c. b || (c && nat_lt 0 (suc (length bs)))) (first_never k) ∙ or_none b)
set_now (b ∷ bs) (suc k) (suc n) h =
    set_now bs k n (omega (arith, h)) ∙ ap (λ c. is_left bs n || (c && nat_lt n (length bs))) (both_later n k) ∙ ap (λ c. is_left bs n || (nat_eq (suc n) (suc k) && c)) (later_below n (length bs))

clear_now : (bs : List Bool) (k n : ℕ) → is_left (slice_set bs k false) n ≡ (is_left bs n && not (nat_eq n k))
clear_now [] zero n = refl
clear_now [] (suc k) n = refl
clear_now (b ∷ bs) zero zero = sym (and_none b)
clear_now (b ∷ bs) zero (suc n) = sym (ap (λ c. is_left bs n && not c) (never_first n) ∙ and_all (is_left bs n))
clear_now (b ∷ bs) (suc k) zero = sym (ap (λ c. b && not c) (first_never k) ∙ and_all b)
clear_now (b ∷ bs) (suc k) (suc n) = clear_now bs k n ∙ ap (λ c. is_left bs n && not c) (both_later n k)

pub sets_one : (old new : List Bool) (k : ℕ) → k < length old → new ≡ slice_set old k true → Sets (λ n. nat_eq n k) old new
sets_one old new k within is = subst (Sets (λ n. nat_eq n k) old) (sym is) (record { count = length_set old k true; now = λ n. set_now old k n within })

pub clears_one : (old new : List Bool) (k : ℕ) → new ≡ slice_set old k false → Clears (λ n. nat_eq n k) old new
clears_one old new k is = subst (Clears (λ n. nat_eq n k) old) (sym is) (record { count = length_set old k false; now = λ n. clear_now old k n })

past : (old : List Bool) (k n : ℕ) → length old ≤ k → (nat_eq n k && nat_lt n (length old)) ≡ false
past old k n h = by (nat_eq n k) refl
  where
    not_below : n ≡ k → nat_lt n (length old) ≡ false
    not_below e = grind (arith, e, h)

    by : (b : Bool) → nat_eq n k ≡ b → (nat_eq n k && nat_lt n (length old)) ≡ false
    by true e = ap (λ c. nat_eq n k && c) (not_below (equal n k e)) ∙ and_none (nat_eq n k)
    by false e = ap (λ c. c && nat_lt n (length old)) e

pub sets_past : (old : List Bool) (k : ℕ) → length old ≤ k → Sets (λ n. nat_eq n k) old old
sets_past old k h = record { count = refl; now = λ n. sym (ap (λ c. is_left old n || c) (past old k n h) ∙ or_none (is_left old n)) }

pub clears_past : (old : List Bool) (k : ℕ) → length old ≤ k → Clears (λ n. nat_eq n k) old old
clears_past old k h = record { count = refl; now = λ n. by n (nat_eq n k) refl (is_left old n) refl }
  where
    by : (n : ℕ) (b : Bool) → nat_eq n k ≡ b → (c : Bool) → is_left old n ≡ c → is_left old n ≡ (is_left old n && not (nat_eq n k))
    by n true e true there = let l = flag_within old n there in let at = equal n k e in absurd (omega (arith, l, at, h))
    by n true e false there = there ∙ sym (ap (λ d. d && not (nat_eq n k)) there)
    by n false e c there = sym (ap (λ d. is_left old n && not d) e ∙ and_all (is_left old n))

pub sets_none : (old : List Bool) → Sets (λ n. false) old old
sets_none old = record { count = refl; now = λ n. sym (or_none (is_left old n)) }

pub clears_none : (old : List Bool) → Clears (λ n. false) old old
clears_none old = record { count = refl; now = λ n. sym (and_all (is_left old n)) }

one_more : (ns : List ℕ) (k d n : ℕ) → k < length ns → (has (take k ns) n || nat_eq n (get_or ns k d)) ≡ has (take (k + 1) ns) n
one_more ns k d n within = sym (ap (λ xs. has xs n) (take_more ns k d within) ∙ has_push (take k ns) (get_or ns k d) n)

pub sets_more : (ns : List ℕ) (k d : ℕ) (old mid new : List Bool) → k < length ns → Sets (has (take k ns)) old mid → Sets (λ n. nat_eq n (get_or ns k d)) mid new → Sets (has (take (k + 1) ns)) old new
sets_more ns k d old mid new within a b = record {
  count = b.count ∙ a.count;
  now = λ n.
      b.now n
      ∙ ap (λ c. c || (nat_eq n (get_or ns k d) && nat_lt n (length mid))) (a.now n)
      ∙ ap (λ l. (is_left old n || (has (take k ns) n && nat_lt n (length old))) || (nat_eq n (get_or ns k d) && nat_lt n l)) a.count
      ∙ sym (two_sets (is_left old n) (has (take k ns) n && nat_lt n (length old)) (nat_eq n (get_or ns k d) && nat_lt n (length old)))
      ∙ ap (λ c. is_left old n || c) (sym (spread (has (take k ns) n) (nat_eq n (get_or ns k d)) (nat_lt n (length old))))
      ∙ ap (λ c. is_left old n || (c && nat_lt n (length old))) (one_more ns k d n within);
}

pub clears_more : (ns : List ℕ) (k d : ℕ) (old mid new : List Bool) → k < length ns → Clears (has (take k ns)) old mid → Clears (λ n. nat_eq n (get_or ns k d)) mid new → Clears (has (take (k + 1) ns)) old new
clears_more ns k d old mid new within a b = record {
  count = b.count ∙ a.count;
  now = λ n.
      b.now n
      ∙ ap (λ c. c && not (nat_eq n (get_or ns k d))) (a.now n)
      ∙ two_clears (is_left old n) (has (take k ns) n) (nat_eq n (get_or ns k d))
      ∙ ap (λ c. is_left old n && not c) (one_more ns k d n within);
}

pub sets_end : (ns : List ℕ) (k : ℕ) (old new : List Bool) → length ns ≤ k → Sets (has (take k ns)) old new → Sets (has ns) old new
sets_end ns k old new h a = subst (λ xs. Sets (has xs) old new) (take_all k ns h) a

pub clears_end : (ns : List ℕ) (k : ℕ) (old new : List Bool) → length ns ≤ k → Clears (has (take k ns)) old new → Clears (has ns) old new
clears_end ns k old new h a = subst (λ xs. Clears (has xs) old new) (take_all k ns h) a

pub flag_of : (count n : ℕ) → n < count → is_left (replicate count true) n ≡ true
flag_of zero n h = absurd (omega (arith, h))
flag_of (suc count) zero h = refl
flag_of (suc count) (suc n) h = flag_of count n (omega (arith, h))

pub flag_none : (count n : ℕ) → is_left (replicate count false) n ≡ false
flag_none zero n = refl
flag_none (suc count) zero = refl
flag_none (suc count) (suc n) = flag_none count n
