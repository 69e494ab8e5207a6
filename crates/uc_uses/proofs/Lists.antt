-- What stands at a place of a list that grows at its end.
use Rattle.std.proofs.Common.{◌≡◌, ℕ, zero, suc, ◌<◌, Bool, true, false, List, [], ◌∷◌, ◌++◌, length, Option, Some, None, refl, ap, sym, ◌∙◌, ◌⊎◌, inl, inr, ⊎_elim, arith}
use Rattle.std.specs.Prelude.{slice_get, cond}
use Rattle.std.specs.List.{filter_map, find, cons_option}
use Rattle.uc_meaning.specs.Lookup.{or_else}
use Rattle.uc_rules.specs.Names.{only_if}

pub none_some : {A B : Type 0} (x : B) → None ≡ Some x → A
none_some x h = cc

pub some_same : {A : Type 0} (x y : A) → Some x ≡ Some y → x ≡ y
some_same x y h = cc

pub get_left : {A : Type 0} (xs ys : List A) (k : ℕ) (x : A) → slice_get xs k ≡ Some x → slice_get (xs ++ ys) k ≡ Some x
get_left [] ys zero x h = none_some x h
get_left [] ys (suc k) x h = none_some x h
get_left (y ∷ xs) ys zero x h = h
get_left (y ∷ xs) ys (suc k) x h = get_left xs ys k x h

pub get_before : {A : Type 0} (xs ys : List A) (k : ℕ) → k < length xs → slice_get (xs ++ ys) k ≡ slice_get xs k
get_before [] ys k h = absurd (omega (arith, h))
get_before (y ∷ xs) ys zero h = refl
get_before (y ∷ xs) ys (suc k) h = get_before xs ys k (omega (arith, h))

pub get_next : {A : Type 0} (xs : List A) (y : A) → slice_get (xs ++ y ∷ []) (length xs) ≡ Some y
get_next [] y = refl
get_next (x ∷ xs) y = get_next xs y

pub get_cases : {A : Type 0} (xs : List A) (y : A) (k : ℕ) (z : A) → slice_get (xs ++ y ∷ []) k ≡ Some z → (slice_get xs k ≡ Some z) ⊎ ((k ≡ length xs) × (z ≡ y))
get_cases [] y zero z h = inr (refl, sym (some_same y z h))
get_cases [] y (suc zero) z h = none_some z h
get_cases [] y (suc (suc k)) z h = none_some z h
get_cases (x ∷ xs) y zero z h = inl h
get_cases (x ∷ xs) y (suc k) z h = ⊎_elim (λ l. inl l) (λ r. inr (ap suc r.0, r.1)) (get_cases xs y k z h)

pub get_within : {A : Type 0} (xs : List A) (k : ℕ) (x : A) → slice_get xs k ≡ Some x → k < length xs
get_within [] zero x h = none_some x h
get_within [] (suc k) x h = none_some x h
get_within (y ∷ xs) zero x h = omega arith
get_within (y ∷ xs) (suc k) x h = let l = get_within xs k x h in omega (arith, l)

pub length_push : {A : Type 0} (xs : List A) (y : A) → length (xs ++ y ∷ []) ≡ suc (length xs)
length_push [] y = refl
length_push (x ∷ xs) y = ap suc (length_push xs y)

pub or_none : {B : Type 0} (o : Option B) → or_else o None ≡ o
or_none None = refl
or_none (Some y) = refl

pub find_push : {A : Type 0} (test : A → Bool) (xs : List A) (y : A) → find test (xs ++ y ∷ []) ≡ or_else (find test xs) (only_if (test y) (Some y))
find_push test [] y = one (test y)
  where
    one : (b : Bool) → cond b (Some y) None ≡ only_if b (Some y)
    one true = refl
    one false = refl
find_push test (x ∷ xs) y = ap (cond (test x) (Some x)) (find_push test xs y) ∙ first (test x)
  where
    first : (b : Bool) → cond b (Some x) (or_else (find test xs) (only_if (test y) (Some y))) ≡ or_else (cond b (Some x) (find test xs)) (only_if (test y) (Some y))
    first true = refl
    first false = refl

pub filter_push : {A B : Type 0} (f : A → Option B) (xs : List A) (y : A) → filter_map f (xs ++ y ∷ []) ≡ filter_map f xs ++ cons_option (f y) []
filter_push f [] y = refl
filter_push {A = A} {B = B} f (x ∷ xs) y = ap (cons_option (f x)) (filter_push f xs y) ∙ first (f x)
  where
    first : (o : Option B) → cons_option o (filter_map f xs ++ cons_option (f y) []) ≡ cons_option o (filter_map f xs) ++ cons_option (f y) []
    first None = refl
    first (Some z) = refl
