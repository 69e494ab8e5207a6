-- What a call leaves, one part after another.
use Rattle.std.proofs.Common.{◌≡◌, ℕ, ◌+◌, ◌<◌, ◌≤◌, Bool, true, false, ◌&&◌, List, [], ◌∷◌, ◌++◌, length, drop, get_or, None, refl, ap, ◌∙◌, sym, subst, append_assoc}
use Rattle.std.specs.Prelude.{Err, if◌then◌else◌}
use Rattle.std.proofs.lemmas.List.{drop_all}
use Rattle.uc_syntax.specs.declared.statement.Target.{Target}
use Rattle.uc_meaning.specs.declared.scope.Scope.{Scope}
use Rattle.uc_meaning.specs.declared.overflow.Wide.{Wide}
use Rattle.uc_meaning.specs.Lookup.{System}
use Rattle.uc_meaning.specs.Overflow.{met, name_met}
use Rattle.uc_meaning.specs.Steps.{fields_before, is_left, all_left}
use Rattle.uc_meaning.proofs.Lists.{drop_turn}
use Rattle.uc_meaning.specs.Checks.{left_met}
use Rattle.uc_operators.specs.declared.error.EvalError.{EvalError}
use Rattle.uc_operators.specs.Overflows.{first_wide, TellsWide}
use Rattle.uc_evaluator.proofs.Told.{none_first, told_first}
use Rattle.uc_checks.specs.Asked.{one_left_met}

-- A list of which each element asks one thing, where the elements behind it are only asked when it holds.
module _ {X : Type 0} (one : X → Bool) (one_met : X → List Wide) (all : List X → Bool) (all_met : List X → List Wide)
    (next : (x : X) (xs : List X) → all (x ∷ xs) ≡ one x && all xs)
    (met_next : (x : X) (xs : List X) → all_met (x ∷ xs) ≡ one_met x ++ (if one x then all_met xs else []))
    (xs : List X) (k : ℕ) where
  module _ (x : X) (within : k < length xs) (is : x ≡ get_or xs k x) (b : Bool) (holds : b ≡ one x) where
    split : all (drop k xs) ≡ b && all (drop (k + 1) xs)
    split = ap all (drop_turn xs k x within is) ∙ next x (drop (k + 1) xs) ∙ ap (λ c. c && all (drop (k + 1) xs)) (sym holds)

    pub left_more : b ≡ true → all (drop k xs) ≡ all xs → all (drop (k + 1) xs) ≡ all xs
    left_more so before = sym (split ∙ ap (λ c. c && all (drop (k + 1) xs)) so) ∙ before

    pub left_out : b ≡ false → all (drop k xs) ≡ all xs → false ≡ all xs
    left_out so before = sym (split ∙ ap (λ c. c && all (drop (k + 1) xs)) so) ∙ before

    met_split : all_met (drop k xs) ≡ one_met x ++ (if b then all_met (drop (k + 1) xs) else [])
    met_split = ap all_met (drop_turn xs k x within is) ∙ met_next x (drop (k + 1) xs) ∙ ap (λ c. one_met x ++ (if c then all_met (drop (k + 1) xs) else [])) (sym holds)

    met_rest : (d : Bool) → b ≡ d → first_wide (one_met x) ≡ None → first_wide (all_met (drop k xs)) ≡ first_wide (if d then all_met (drop (k + 1) xs) else [])
    met_rest d so fine = ap first_wide met_split ∙ none_first (one_met x) _ fine ∙ ap (λ c. first_wide (if c then all_met (drop (k + 1) xs) else [])) so

    pub left_met_more : b ≡ true → first_wide (one_met x) ≡ None → first_wide (all_met (drop k xs)) ≡ first_wide (all_met xs) → first_wide (all_met (drop (k + 1) xs)) ≡ first_wide (all_met xs)
    left_met_more so fine before = sym (met_rest true so fine) ∙ before

    pub left_met_out : b ≡ false → first_wide (one_met x) ≡ None → first_wide (all_met (drop k xs)) ≡ first_wide (all_met xs) → first_wide (all_met xs) ≡ None
    left_met_out so fine before = sym before ∙ met_rest false so fine

  pub left_told : (x : X) (A B : Type 0) (e : EvalError) → k < length xs → x ≡ get_or xs k x → first_wide (all_met (drop k xs)) ≡ first_wide (all_met xs) → TellsWide {A = A} (first_wide (one_met x)) (Err e) →
      TellsWide {A = B} (first_wide (all_met xs)) (Err e)
  left_told x A B e within is before told =
      subst (λ o. TellsWide {A = B} o (Err e)) (sym (ap first_wide (met_split x within is (one x) refl)) ∙ before) (told_first A B (one_met x) _ e told)

  -- where none is left, the answer for none is the answer
  pub left_end : length xs ≤ k → all (drop k xs) ≡ all xs → all [] ≡ all xs
  left_end past before = ap all (sym (drop_all k xs past)) ∙ before

  pub left_met_end : length xs ≤ k → first_wide (all_met (drop k xs)) ≡ first_wide (all_met xs) → first_wide (all_met []) ≡ first_wide (all_met xs)
  left_met_end past before = ap (λ ys. first_wide (all_met ys)) (sym (drop_all k xs past)) ∙ before

module _ (system : System) (s after_call : Scope) where
  abbrev pub target_left : Target → Bool
  target_left t = is_left system s after_call t.name (fields_before t.parts)

  abbrev pub target_left_met : Target → List Wide
  target_left_met t = one_left_met system s after_call t.name

  abbrev pub name_left : ℕ → Bool
  name_left x = is_left system s after_call x []

  abbrev pub name_left_met : ℕ → List Wide
  name_left_met x = one_left_met system s after_call x

  pub targets_next : (names : List ℕ) (t : Target) (ts : List Target) → all_left system s after_call (t ∷ ts) names ≡ target_left t && all_left system s after_call ts names
  unfolding all_left
  targets_next names t ts = refl

  pub targets_met_next : (names : List ℕ) (t : Target) (ts : List Target) → left_met system s after_call (t ∷ ts) names ≡ target_left_met t ++ (if target_left t then left_met system s after_call ts names else [])
  unfolding left_met
  targets_met_next names t ts = sym (append_assoc (name_met system (met system) s t.name true) (name_met system (met system) after_call t.name false) _)

  pub names_next : (x : ℕ) (names : List ℕ) → all_left system s after_call [] (x ∷ names) ≡ name_left x && all_left system s after_call [] names
  unfolding all_left
  names_next x names = refl

  pub names_met_next : (x : ℕ) (names : List ℕ) → left_met system s after_call [] (x ∷ names) ≡ name_left_met x ++ (if name_left x then left_met system s after_call [] names else [])
  unfolding left_met
  names_met_next x names = sym (append_assoc (name_met system (met system) s x true) (name_met system (met system) after_call x false) _)

  pub none_left : all_left system s after_call [] [] ≡ true
  unfolding all_left
  none_left = refl

  pub none_left_met : left_met system s after_call [] [] ≡ []
  unfolding left_met
  none_left_met = refl
