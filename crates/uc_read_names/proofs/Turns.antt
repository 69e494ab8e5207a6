-- The innermost of the names that are the same.
use Rattle.std.proofs.Common.{◌≡◌, ℕ, ◌+◌, ◌-◌, ◌<◌, ◌≤◌, Bool, true, false, List, [], ◌∷◌, ◌++◌, length, take, get_or, reverse, Option, Some, None, refl, ap, sym, subst, ◌∙◌, arith}
use Rattle.std.specs.Prelude.{cond}
use Rattle.std.specs.List.{find}
use Rattle.std.proofs.lemmas.List.{take_all, take_more}
use Rattle.std.proofs.lemmas.Grind.{reverse_onto}

pub join_two : {A : Type 0} (xs : List A) (x : A) → reverse (xs ++ x ∷ []) ≡ x ∷ reverse xs
join_two [] x = refl
join_two (y ∷ xs) x = reverse_onto (xs ++ x ∷ []) y [] ∙ ap (λ zs. zs ++ y ∷ []) (join_two xs x) ∙ ap (λ zs. x ∷ zs) (sym (reverse_onto xs y []))

-- what is found from the last one on
pub last_turn : {A : Type 0} (test : A → Bool) (xs : List A) (m : ℕ) (d : A) → m < length xs → find test (reverse (take (m + 1) xs)) ≡ cond (test (get_or xs m d)) (Some (get_or xs m d)) (find test (reverse (take m xs)))
last_turn test xs m d within = ap (λ ys. find test (reverse ys)) (take_more xs m d within) ∙ ap (find test) (join_two (take m xs) (get_or xs m d))
