-- The trail, step by step.
use Rattle.std.proofs.Common.{◌≡◌, ℕ, zero, suc, ◌+◌, ◌<◌, ◌≤◌, Bool, not, List, [], ◌∷◌, ◌++◌, Option, None, Some, length, get_or, take, replicate, refl, sym, ◌∙◌, ap, subst, arith}
use Rattle.std.specs.Prelude.{All, MatchOption}
use Rattle.std.proofs.lemmas.List.{length-set, length-append, length-replicate, take_more, get_or_append_left}
use Rattle.std.proofs.lemmas.List.Elements.{All-push}
use Rattle.uc_circuit.specs.declared.literal.Lit.{Lit}
use Rattle.uc_circuit.specs.Values.{assign, IsFalse, IsFalsified, IsSettled, HasNoValue, Forces}
use Rattle.uc_learner.specs.declared.state.Step.{Step}
use Rattle.uc_learner.specs.Trail.{values_after, values_at, IsImplied, IsInput, StepFits, TrailFits, DecisionsAreSettled}
use Rattle.uc_learner.proofs.Walk.{assign_keeps}

pub length-values_after : (v : List (Option Bool)) (xs : List Step) → length (values_after v xs) ≡ length v
length-values_after v [] = refl
length-values_after v (s ∷ xs) =
    length-values_after (assign v s.literal) xs ∙ length-set v s.literal.var (Some (not s.literal.neg))

pub length-values_at : (n : ℕ) (xs : List Step) (i : ℕ) → length (values_at n xs i) ≡ n
length-values_at n xs i = length-values_after (replicate n None) (take i xs) ∙ length-replicate n None

pub values_after-append : (v : List (Option Bool)) (xs ys : List Step) → values_after v (xs ++ ys) ≡ values_after (values_after v xs) ys
values_after-append v [] ys = refl
values_after-append v (s ∷ xs) ys = values_after-append (assign v s.literal) xs ys

pub values_at-next : (n : ℕ) (xs : List Step) (i : ℕ) (d : Step) → i < length xs → values_at n xs (i + 1) ≡ assign (values_at n xs i) (get_or xs i d).literal
values_at-next n xs i d h =
    ap (values_after (replicate n None)) (take_more xs i d h) ∙ values_after-append (replicate n None) (take i xs) (get_or xs i d ∷ [])

pub fits_at :
    (inputs : List Bool) (clauses : List (List Lit)) (v : List (Option Bool)) (xs : List Step) (i : ℕ) (d : Step)
    → TrailFits inputs clauses v xs → i < length xs → StepFits inputs clauses (values_after v (take i xs)) (get_or xs i d)
fits_at inputs clauses v [] i d fits h = absurd (omega arith)
fits_at inputs clauses v (s ∷ xs) zero d fits h = fits.0
fits_at inputs clauses v (s ∷ xs) (suc i) d fits h = fits_at inputs clauses (assign v s.literal) xs i d fits.1 (omega arith)

pub fits_push :
    (inputs : List Bool) (clauses : List (List Lit)) (v : List (Option Bool)) (xs : List Step) (s : Step)
    → TrailFits inputs clauses v xs → StepFits inputs clauses (values_after v xs) s → TrailFits inputs clauses v (xs ++ s ∷ [])
fits_push inputs clauses v [] s fits step = (step, tt)
fits_push inputs clauses v (x ∷ xs) s fits step = (fits.0, fits_push inputs clauses (assign v x.literal) xs s fits.1 step)

pub fits_take :
    (inputs : List Bool) (clauses : List (List Lit)) (v : List (Option Bool)) (i : ℕ) (xs : List Step)
    → TrailFits inputs clauses v xs → TrailFits inputs clauses v (take i xs)
fits_take inputs clauses v zero xs fits = tt
fits_take inputs clauses v (suc i) [] fits = tt
fits_take inputs clauses v (suc i) (s ∷ xs) fits = (fits.0, fits_take inputs clauses (assign v s.literal) i xs fits.1)

-- a reason keeps its number when a clause is added
implied_more :
    (clauses : List (List Lit)) (c : List Lit) (v : List (Option Bool)) (l : Lit) (n : ℕ)
    → IsImplied clauses v l n → IsImplied (clauses ++ c ∷ []) v l n
implied_more clauses c v l n is = (
  simp length-append (omega (arith, is.0)),
  let same : get_or (clauses ++ c ∷ []) n [] ≡ get_or clauses n [] = get_or_append_left clauses (c ∷ []) [] n is.0 in
      subst (λ (k : List Lit). Forces v k l) (sym same) is.1,
)

pub fits_more :
    (inputs : List Bool) (clauses : List (List Lit)) (c : List Lit) (v : List (Option Bool)) (xs : List Step)
    → TrailFits inputs clauses v xs → TrailFits inputs (clauses ++ c ∷ []) v xs
fits_more inputs clauses c v [] fits = tt
fits_more inputs clauses c v (s ∷ xs) fits = (
  record {
    inside = fits.0.inside;
    unset = fits.0.unset;
    cause =
        elim s.reason as (λ r. MatchOption r (IsInput inputs s.literal) (IsImplied clauses v s.literal) → MatchOption r (IsInput inputs s.literal) (IsImplied (clauses ++ c ∷ []) v s.literal)) [
          | None ↦ λ is. is
          | Some n ↦ λ is. implied_more clauses c v s.literal n is
        ] fits.0.cause;
  },
  fits_more inputs clauses c (assign v s.literal) xs fits.1,
)

-- a value stays while the trail grows
pub values_stay :
    (inputs : List Bool) (clauses : List (List Lit)) (v : List (Option Bool)) (xs : List Step) (x : ℕ) (b : Bool)
    → TrailFits inputs clauses v xs → get_or v x None ≡ Some b → get_or (values_after v xs) x None ≡ Some b
values_stay inputs clauses v [] x b fits is = is
values_stay inputs clauses v (s ∷ xs) x b fits is =
    values_stay inputs clauses (assign v s.literal) xs x b fits.1 (assign_keeps v s.literal x b fits.0.unset is)

pub values_at-later :
    (inputs : List Bool) (clauses : List (List Lit)) (v : List (Option Bool)) (xs : List Step) (i j x : ℕ) (b : Bool)
    → TrailFits inputs clauses v xs → i ≤ j → get_or (values_after v (take i xs)) x None ≡ Some b → get_or (values_after v (take j xs)) x None ≡ Some b
values_at-later inputs clauses v xs zero j x b fits le is =
    values_stay inputs clauses v (take j xs) x b (fits_take inputs clauses v j xs fits) is
values_at-later inputs clauses v xs (suc i) zero x b fits le is = absurd (omega arith)
values_at-later inputs clauses v [] (suc i) (suc j) x b fits le is = is
values_at-later inputs clauses v (s ∷ xs) (suc i) (suc j) x b fits le is =
    values_at-later inputs clauses (assign v s.literal) xs i j x b fits.1 (omega arith) is

-- what has no value later had none before
pub unset_at-earlier :
    (inputs : List Bool) (clauses : List (List Lit)) (v : List (Option Bool)) (xs : List Step) (i j x : ℕ)
    → TrailFits inputs clauses v xs → i ≤ j → get_or (values_after v (take j xs)) x None ≡ None → get_or (values_after v (take i xs)) x None ≡ None
unset_at-earlier inputs clauses v xs i j x fits le is =
    elim (get_or (values_after v (take i xs)) x None) as (λ o. get_or (values_after v (take i xs)) x None ≡ o → o ≡ None) [
      | None ↦ λ _. refl
      | Some b ↦ λ e. let later : get_or (values_after v (take j xs)) x None ≡ Some b = values_at-later inputs clauses v xs i j x b fits le e in absurd (let f : Some b ≡ None = sym later ∙ is in cc)
    ] refl

pub falsified_later :
    (inputs : List Bool) (clauses : List (List Lit)) (v : List (Option Bool)) (xs : List Step) (i j : ℕ) (c : List Lit)
    → TrailFits inputs clauses v xs → i ≤ j → IsFalsified (values_after v (take i xs)) c → IsFalsified (values_after v (take j xs)) c
falsified_later inputs clauses v xs i j c fits le false' k d h =
    values_at-later inputs clauses v xs i j _ _ fits le (false' k d h)

-- each clause was settled just before any decision
pub open_at :
    (clauses : List (List Lit)) (v : List (Option Bool)) (xs : List Step) (i : ℕ) (d : Step)
    → DecisionsAreSettled clauses v xs → i < length xs → (get_or xs i d).reason ≡ None
    → All (IsSettled (values_after v (take i xs))) clauses
open_at clauses v [] i d are_settled h is = absurd (omega arith)
open_at clauses v (s ∷ xs) zero d are_settled h is =
    subst (λ (r : Option ℕ). MatchOption r (All (IsSettled v) clauses) (λ _. Unit {0})) is are_settled.0
open_at clauses v (s ∷ xs) (suc i) d are_settled h is = open_at clauses (assign v s.literal) xs i d are_settled.1 (omega arith) is

pub open_push :
    (clauses : List (List Lit)) (v : List (Option Bool)) (xs : List Step) (s : Step)
    → DecisionsAreSettled clauses v xs
    → MatchOption s.reason (All (IsSettled (values_after v xs)) clauses) (λ _. Unit {0})
    → DecisionsAreSettled clauses v (xs ++ s ∷ [])
open_push clauses v [] s are_settled step = (step, tt)
open_push clauses v (x ∷ xs) s are_settled step = (are_settled.0, open_push clauses (assign v x.literal) xs s are_settled.1 step)

pub open_take :
    (clauses : List (List Lit)) (v : List (Option Bool)) (i : ℕ) (xs : List Step)
    → DecisionsAreSettled clauses v xs → DecisionsAreSettled clauses v (take i xs)
open_take clauses v zero xs are_settled = tt
open_take clauses v (suc i) [] are_settled = tt
open_take clauses v (suc i) (s ∷ xs) are_settled = (are_settled.0, open_take clauses (assign v s.literal) i xs are_settled.1)

-- a clause that was settled just before each decision may be added
pub open_more :
    (clauses : List (List Lit)) (c : List Lit) (v : List (Option Bool)) (xs : List Step)
    → ((i : ℕ) → i < length xs → ((d : Step) → (get_or xs i d).reason ≡ None) → IsSettled (values_after v (take i xs)) c)
    → DecisionsAreSettled clauses v xs → DecisionsAreSettled (clauses ++ c ∷ []) v xs
open_more clauses c v [] settled are_settled = tt
open_more clauses c v (s ∷ xs) settled are_settled = (
  elim s.reason as (λ r. s.reason ≡ r → MatchOption r (All (IsSettled v) clauses) (λ _. Unit {0}) → MatchOption r (All (IsSettled v) (clauses ++ c ∷ [])) (λ _. Unit {0})) [
    | None ↦ λ e is. All-push (IsSettled v) clauses c is (settled 0 (omega arith) (λ d. e))
    | Some n ↦ λ e is. tt
  ] refl are_settled.0,
  open_more clauses c (assign v s.literal) xs (λ i h none. settled (suc i) (omega (arith, h)) none) are_settled.1,
)
