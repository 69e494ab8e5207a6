-- Lists in which one element at most passes a test.
use Rattle.std.proofs.Common.{◌≡◌, ℕ, ◌<◌, ◌+◌, List, [], ◌∷◌, length, get_or, take, ◌≤◌, Bool, true, false, not, nat_le, cond, refl, ap, ◌∙◌, sym, rules, arith}
use Rattle.std.specs.List.{list_any, filter, count_by}
use Rattle.std.proofs.lemmas.List.Sums.{length-filter, count_by_more_yes, count_by_more_no}
use Rattle.std.proofs.lemmas.List.{take_all}
use Rattle.uc_meaning.specs.Fragment.{at_most_one, at_most_one_after}

none_turn : {A : Type 0} (p : A → Bool) (x : A) (xs : List A) (b : Bool) → p x ≡ b → not (list_any p xs) ≡ nat_le (length (filter p xs)) 0 →
    not (list_any p (x ∷ xs)) ≡ nat_le (length (filter p (x ∷ xs))) 0
none_turn p x xs true h rest = search (h, rules)
none_turn p x xs false h rest = search (h, rest, rules)

pub none : {A : Type 0} (p : A → Bool) (xs : List A) → not (list_any p xs) ≡ nat_le (length (filter p xs)) 0
none p [] = refl
none p (x ∷ xs) = none_turn p x xs (p x) refl (none p xs)

once_turn : {A : Type 0} (p : A → Bool) (x : A) (xs : List A) (b : Bool) → p x ≡ b → nat_le (length (filter p xs)) 1 ≡ at_most_one p xs →
    nat_le (length (filter p (x ∷ xs))) 1 ≡ at_most_one_after (p x) (at_most_one p xs) (list_any p xs)
once_turn p x xs true h rest = search (h, none p xs, rules)
once_turn p x xs false h rest = search (h, rest, rules)

pub once : {A : Type 0} (p : A → Bool) (xs : List A) → nat_le (length (filter p xs)) 1 ≡ at_most_one p xs
unfolding at_most_one
once p [] = refl
once p (x ∷ xs) = once_turn p x xs (p x) refl (once p xs)

pub counted_once : {A : Type 0} (p : A → Bool) (xs : List A) → nat_le (count_by p xs) 1 ≡ at_most_one p xs
counted_once p xs = ap (λ n. nat_le n 1) (sym (length-filter p xs)) ∙ once p xs

-- A count of the elements before k.
abbrev pub IsCount : {A : Type 0} → (A → Bool) → List A → ℕ → ℕ → Type 0
IsCount p xs k n = (n ≡ count_by p (take k xs)) × (n ≤ k)

more : {A : Type 0} (p : A → Bool) (xs : List A) (k : ℕ) (x : A) (b : Bool) → k < length xs → p (get_or xs k x) ≡ b → count_by p (take (k + 1) xs) ≡ count_by p (take k xs) + cond b 1 0
more p xs k x true within h = count_by_more_yes p xs k x within h
more p xs k x false within h = let e = count_by_more_no p xs k x within h in omega (arith, e)

few : (b : Bool) (n : ℕ) → n ≡ cond b 1 0 → n ≤ 1
few true n h = omega (arith, h)
few false n h = omega (arith, h)

pub counted_turn : {A : Type 0} (p : A → Bool) (xs : List A) (k : ℕ) (x : A) (n one : ℕ) → k < length xs → x ≡ get_or xs k x → one ≡ cond (p x) 1 0 → IsCount p xs k n → IsCount p xs (k + 1) (n + one)
counted_turn p xs k x n one within is o h =
    let e : count_by p (take (k + 1) xs) ≡ count_by p (take k xs) + cond (p x) 1 0 = more p xs k x (p x) within (ap p (sym is)) in
    let f : one ≤ 1 = few (p x) one o in
    (omega (arith, e, o, h.0), omega (arith, f, h.1))

pub counted_end : {A : Type 0} (p : A → Bool) (xs : List A) (k n : ℕ) → length xs ≤ k → IsCount p xs k n → n ≡ count_by p xs
counted_end p xs k n past h = h.0 ∙ ap (count_by p) (take_all k xs past)
