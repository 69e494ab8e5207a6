-- The first place along a list, step by step.
use Rattle.std.proofs.Common.{◌≡◌, ℕ, suc, ◌+◌, ◌<◌, ◌≤◌, List, [], ◌∷◌, map, length, drop, get_or, add-one, drop-cons, Option, Some, None, Bool, true, false, refl, ap, ◌∙◌, sym}
use Rattle.std.specs.Prelude.{cond}
use Rattle.std.specs.List.{position_from}
use Rattle.std.proofs.lemmas.List.{drop_all}

split : {A : Type 0} (xs : List A) (k : ℕ) (x d : A) → k < length xs → x ≡ get_or xs k d → drop k xs ≡ x ∷ drop (k + 1) xs
split xs k x d within is =
    drop-cons xs k d within ∙ (ap (λ y. y ∷ drop (suc k) xs) (sym is) ∙ ap (λ n. x ∷ drop n xs) (sym (add-one k)))

place_split : {A : Type 0} (p : A → Bool) (xs : List A) (k : ℕ) (x d : A) → k < length xs → x ≡ get_or xs k d →
    position_from p k (drop k xs) ≡ cond (p x) (Some k) (position_from p (k + 1) (drop (k + 1) xs))
place_split p xs k x d within is = ap (position_from p k) (split xs k x d within is)

pub place_found : {A : Type 0} (p : A → Bool) (xs : List A) (k : ℕ) (x d : A) (r : Option ℕ) → k < length xs → x ≡ get_or xs k d → p x ≡ true → position_from p k (drop k xs) ≡ r → Some k ≡ r
place_found p xs k x d r within is passes before =
    sym (place_split p xs k x d within is ∙ ap (λ b. cond b (Some k) (position_from p (k + 1) (drop (k + 1) xs))) passes) ∙ before

pub place_more : {A : Type 0} (p : A → Bool) (xs : List A) (k : ℕ) (x d : A) (r : Option ℕ) → k < length xs → x ≡ get_or xs k d → p x ≡ false → position_from p k (drop k xs) ≡ r →
    position_from p (k + 1) (drop (k + 1) xs) ≡ r
place_more p xs k x d r within is fails before =
    sym (place_split p xs k x d within is ∙ ap (λ b. cond b (Some k) (position_from p (k + 1) (drop (k + 1) xs))) fails) ∙ before

pub place_end : {A : Type 0} (p : A → Bool) (xs : List A) (k : ℕ) (r : Option ℕ) → length xs ≤ k → position_from p k (drop k xs) ≡ r → None ≡ r
place_end p xs k r past before = sym (ap (position_from p k) (drop_all k xs past)) ∙ before

pub place_of_map : {A B : Type 0} (p : B → Bool) (f : A → B) (k : ℕ) (xs : List A) → position_from p k (map f xs) ≡ position_from (λ x. p (f x)) k xs
place_of_map p f k [] = refl
place_of_map p f k (x ∷ xs) = ap (cond (p (f x)) (Some k)) (place_of_map p f (k + 1) xs)
