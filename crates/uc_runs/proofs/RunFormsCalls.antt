-- Results, which are locals.
use Rattle.std.proofs.Common.{◌≡◌, ℕ, zero, suc, ◌<◌, Bool, true, false, ◌&&◌, List, [], ◌∷◌, map, length, get_or, nat_eq, Some, None, refl, ap, ◌∙◌, arith}
use Rattle.std.specs.Prelude.{cond, ◌||◌}
use Rattle.std.specs.List.{list_all, find}
use Rattle.uc_syntax.specs.declared.type_expression.Parameter.{Parameter}
use Rattle.uc_syntax.specs.declared.type_expression.TypeExpr.{TypeExpr}
use Rattle.uc_meaning.specs.declared.scope.Scope.{Scope}
use Rattle.uc_meaning.specs.declared.scope.Local.{Local}
use Rattle.uc_meaning.specs.Lookup.{System}
use Rattle.uc_meaning.specs.Expressions.{reading, meaning_of, name_meaning, meant_reading, local_of}
use Rattle.uc_meaning.specs.Code.{results, name_now}
use Rattle.uc_runs.specs.Writes.{has_local}

-- a local says its value
pub local_says : (system : System) (s : Scope) (x : ℕ) (l : Local) → Some l ≡ local_of s x → l.value ≡ (name_now system s x).value
unfolding meaning_of
local_says system s x l found = ap (λ o. (meant_reading (reading system) (name_meaning system s x false o)).value) found

-- the results are the values of their names
pub results_are : (system : System) (s : Scope) (ps : List (Parameter TypeExpr)) → map (λ p. (name_now system s p.identifier.name).value) ps ≡ results system s ps
unfolding results
results_are system s [] = refl
results_are system s (p ∷ ps) = ap (λ vs. (name_now system s p.identifier.name).value ∷ vs) (results_are system s ps)

-- a name of a local says one
found_among : (x : ℕ) (ls : List Local) → has_local ls x ≡ true → None ≡ find (λ l. nat_eq l.name x) ls → ⊥
found_among x [] there none = absurd (cc)
found_among x (l ∷ ls) there none = here (nat_eq l.name x) (found_among x ls) there none
  where
    here : (b : Bool) → (has_local ls x ≡ true → None ≡ find (λ k. nat_eq k.name x) ls → ⊥) → (b || has_local ls x) ≡ true → None ≡ cond b (Some l) (find (λ k. nat_eq k.name x) ls) → ⊥
    here true rest there none = absurd (cc)
    here false rest there none = rest there none

pub local_there : (s : Scope) (x : ℕ) → has_local s.locals x ≡ true → None ≡ local_of s x → ⊥
local_there s x there none = found_among x s.locals there none

-- what holds of all holds of each
pub each_is : {A : Type 0} (t : A → Bool) (xs : List A) (k : ℕ) (x : A) → list_all t xs ≡ true → k < length xs → x ≡ get_or xs k x → t x ≡ true
each_is {A = A} t xs k x all within is = ap t is ∙ at xs k all within
  where
    both : (b c : Bool) → (b && c) ≡ true → (b ≡ true) × (c ≡ true)
    both true true h = (refl, refl)
    both true false h = absurd (cc)
    both false c h = absurd (cc)

    at : (ys : List A) (n : ℕ) → list_all t ys ≡ true → n < length ys → t (get_or ys n x) ≡ true
    at [] n all within = absurd (omega (arith, within))
    at (y ∷ ys) zero all within = (both (t y) (list_all t ys) all).0
    at (y ∷ ys) (suc n) all within = at ys n (both (t y) (list_all t ys) all).1 (omega (arith, within))
