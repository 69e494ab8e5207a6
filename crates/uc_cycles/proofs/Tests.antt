-- Equations of tests, and tests along lists.
use Rattle.std.proofs.Common.{◌≡◌, ℕ, ◌+◌, ◌<◌, Bool, true, false, List, [], ◌∷◌, ◌++◌, length, map, take, get_or, refl, ap, sym, ◌∙◌, arith, ◌⊎◌, inl, inr, ⊎_elim}
use Rattle.std.specs.Prelude.{nat_eq, ◌&&◌, ◌||◌}
use Rattle.std.specs.List.{list_any}
use Rattle.std.proofs.lemmas.List.{take_more}
use Rattle.std.proofs.lemmas.List.Folds.{list_any-append}
use Rattle.uc_graph.specs.Order.{has}

pub nothing : {A : Type 0} → true ≡ false → A
nothing h = cc

pub either : (b c : Bool) → (b || c) ≡ true → (b ≡ true) ⊎ (c ≡ true)
either true c h = inl refl
either false c h = inr h

pub or_left : (b c : Bool) → b ≡ true → (b || c) ≡ true
or_left true c h = refl
or_left false c h = nothing (sym h)

pub or_right : (b c : Bool) → c ≡ true → (b || c) ≡ true
or_right true c h = refl
or_right false c h = h

pub or_assoc : (a b c : Bool) → ((a || b) || c) ≡ (a || (b || c))
or_assoc true b c = refl
or_assoc false b c = refl

pub or_none : (b : Bool) → (b || false) ≡ b
or_none true = refl
or_none false = refl

pub or_swap : (a b c : Bool) → ((a || c) || b) ≡ ((a || b) || c)
or_swap true b c = refl
or_swap false true true = refl
or_swap false true false = refl
or_swap false false c = or_none c

pub and_left : (b c : Bool) → (b && c) ≡ true → b ≡ true
and_left true c h = refl
and_left false c h = nothing (sym h)

pub and_right : (b c : Bool) → (b && c) ≡ true → c ≡ true
and_right true c h = h
and_right false c h = nothing (sym h)

pub both : (b c : Bool) → b ≡ true → c ≡ true → (b && c) ≡ true
both true c h k = k
both false c h k = nothing (sym h)

pub same_bool : (b c : Bool) → (b ≡ true → c ≡ true) → (c ≡ true → b ≡ true) → b ≡ c
same_bool true c h k = sym (h refl)
same_bool false true h k = nothing (sym (k refl))
same_bool false false h k = refl

pub same : (n : ℕ) → nat_eq n n ≡ true
same n = grind arith

pub equal : (n m : ℕ) → nat_eq n m ≡ true → n ≡ m
equal n m h = grind (arith, h)

pub swapped : (n m : ℕ) → nat_eq n m ≡ nat_eq m n
swapped n m = grind arith

pub any_push : {A : Type 0} (test : A → Bool) (xs : List A) (x : A) → list_any test (xs ++ x ∷ []) ≡ (list_any test xs || test x)
any_push test xs x = list_any-append test xs (x ∷ []) ∙ ap (λ b. list_any test xs || b) (or_none (test x))

pub any_more : {A : Type 0} (test : A → Bool) (xs : List A) (k : ℕ) (d : A) → k < length xs → list_any test (take (k + 1) xs) ≡ (list_any test (take k xs) || test (get_or xs k d))
any_more test xs k d within = ap (list_any test) (take_more xs k d within) ∙ any_push test (take k xs) (get_or xs k d)

pub any_map : {A : Type 0} (test : A → Bool) (xs : List A) → list_any (λ b. b) (map test xs) ≡ list_any test xs
any_map test [] = refl
any_map test (x ∷ xs) = ap (λ b. test x || b) (any_map test xs)

-- a number among some that passes a test
pub any_by : (test : ℕ → Bool) (ns : List ℕ) → list_any test ns ≡ true → (n : ℕ) × (has ns n ≡ true) × (test n ≡ true)
any_by test [] h = nothing (sym h)
any_by test (x ∷ ns) h = ⊎_elim (λ here. (x, or_left (nat_eq x x) (has ns x) (same x), here)) (λ later. let r = any_by test ns later in (r.0, or_right (nat_eq r.0 x) (has ns r.0) r.1, r.2)) (either (test x) (list_any test ns) h)

pub any_there : (test : ℕ → Bool) (ns : List ℕ) (n : ℕ) → has ns n ≡ true → test n ≡ true → list_any test ns ≡ true
any_there test [] n h t = nothing (sym h)
any_there test (x ∷ ns) n h t =
    ⊎_elim (λ is. or_left (test x) (list_any test ns) (ap test (sym (equal n x is)) ∙ t)) (λ later. or_right (test x) (list_any test ns) (any_there test ns n later t)) (either (nat_eq n x) (has ns n) h)
