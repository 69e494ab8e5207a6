-- Constraints that are checked for each element of a list, one after another.
use Rattle.std.proofs.Common.{◌≡◌, ℕ, ◌+◌, ◌<◌, ◌≤◌, List, [], ◌∷◌, ◌++◌, length, drop, get_or, Option, Some, None, ap, ◌∙◌, sym, subst}
use Rattle.std.specs.Prelude.{Err}
use Rattle.std.proofs.lemmas.List.{drop_all, drop_more}
use Rattle.uc_values.specs.declared.value.Value.{Value}
use Rattle.uc_meaning.specs.declared.scope.Scope.{Scope}
use Rattle.uc_meaning.specs.declared.overflow.Wide.{Wide}
use Rattle.uc_meaning.specs.Steps.{Watched, Check, Kept, Broken, Constraint, then_check}
use Rattle.uc_meaning.specs.Checks.{CheckMet, met_kept}
use Rattle.uc_operators.specs.declared.error.EvalError.{EvalError}
use Rattle.uc_operators.specs.Overflows.{first_wide, TellsWide}
use Rattle.uc_evaluator.proofs.Told.{none_first, told_first}
use Rattle.uc_checks.specs.declared.seen.Seen.{Seen}
use Rattle.uc_checks.specs.Watches.{watched, check_of}

parted : {A : Type 0} (xs : List A) (k : ℕ) (x d : A) → k < length xs → x ≡ get_or xs k d → drop k xs ≡ x ∷ drop (k + 1) xs
parted xs k x d within is = drop_more xs k d within ∙ ap (λ y. y ∷ drop (k + 1) xs) (sym is)

module _ {A : Type 0} (one : A → Constraint) (all : List A → Constraint)
    (none : (w : Watched) → all [] w ≡ Kept w)
    (next : (x : A) (xs : List A) (w : Watched) → all (x ∷ xs) w ≡ then_check (one x w) (all xs)) where
  module _ (s : Scope) (choices : List Value) (xs : List A) (k : ℕ) (here : Seen) where
    pub asks_end : (goal : Check) → length xs ≤ k → all (drop k xs) (watched s choices here) ≡ goal → Kept (watched s choices here) ≡ goal
    asks_end goal past before = sym (none (watched s choices here)) ∙ ap (λ ys. all ys (watched s choices here)) (sym (drop_all k xs past)) ∙ before

    module _ (x d : A) (within : k < length xs) (is : x ≡ get_or xs k d) (o : Option Seen) (asks : check_of s choices o ≡ one x (watched s choices here)) where
      round : all (drop k xs) (watched s choices here) ≡ then_check (check_of s choices o) (all (drop (k + 1) xs))
      round =
          ap (λ ys. all ys (watched s choices here)) (parted xs k x d within is)
          ∙ next x (drop (k + 1) xs) (watched s choices here)
          ∙ ap (λ c. then_check c (all (drop (k + 1) xs))) (sym asks)

      pub asks_more : (w : Seen) (goal : Check) → o ≡ Some w → all (drop k xs) (watched s choices here) ≡ goal → all (drop (k + 1) xs) (watched s choices w) ≡ goal
      asks_more w goal some before = sym (round ∙ ap (λ p. then_check (check_of s choices p) (all (drop (k + 1) xs))) some) ∙ before

      pub asks_out : (goal : Check) → o ≡ None → all (drop k xs) (watched s choices here) ≡ goal → Broken ≡ goal
      asks_out goal broken before = sym (round ∙ ap (λ p. then_check (check_of s choices p) (all (drop (k + 1) xs))) broken) ∙ before

  module _ (met_one : A → CheckMet) (met_all : List A → CheckMet)
      (met_none : (w : Watched) → met_all [] w ≡ [])
      (met_next : (x : A) (xs : List A) (w : Watched) → met_all (x ∷ xs) w ≡ met_one x w ++ met_kept (one x w) (met_all xs))
      (s : Scope) (choices : List Value) (xs : List A) (k : ℕ) (here : Seen) where
    pub met_end : (goal : Option Wide) → length xs ≤ k → first_wide (met_all (drop k xs) (watched s choices here)) ≡ goal → goal ≡ None
    met_end goal past before =
        sym before ∙ ap (λ ys. first_wide (met_all ys (watched s choices here))) (drop_all k xs past) ∙ ap first_wide (met_none (watched s choices here))

    module _ (x d : A) (within : k < length xs) (is : x ≡ get_or xs k d) where
      split : met_all (drop k xs) (watched s choices here) ≡ met_one x (watched s choices here) ++ met_kept (one x (watched s choices here)) (met_all (drop (k + 1) xs))
      split = ap (λ ys. met_all ys (watched s choices here)) (parted xs k x d within is) ∙ met_next x (drop (k + 1) xs) (watched s choices here)

      pub met_told : (X Y : Type 0) (goal : Option Wide) (error : EvalError) → first_wide (met_all (drop k xs) (watched s choices here)) ≡ goal →
          TellsWide {A = X} (first_wide (met_one x (watched s choices here))) (Err error) → TellsWide {A = Y} goal (Err error)
      met_told X Y goal error before told =
          subst (λ o. TellsWide {A = Y} o (Err error)) (sym (ap first_wide split) ∙ before)
          (told_first X Y (met_one x (watched s choices here)) (met_kept (one x (watched s choices here)) (met_all (drop (k + 1) xs))) error told)

      module _ (o : Option Seen) (asks : check_of s choices o ≡ one x (watched s choices here)) (fine : first_wide (met_one x (watched s choices here)) ≡ None) where
        rest : first_wide (met_all (drop k xs) (watched s choices here)) ≡ first_wide (met_kept (check_of s choices o) (met_all (drop (k + 1) xs)))
        rest =
            ap first_wide split
            ∙ none_first (met_one x (watched s choices here)) (met_kept (one x (watched s choices here)) (met_all (drop (k + 1) xs))) fine
            ∙ ap (λ c. first_wide (met_kept c (met_all (drop (k + 1) xs)))) (sym asks)

        pub met_more : (w : Seen) (goal : Option Wide) → o ≡ Some w → first_wide (met_all (drop k xs) (watched s choices here)) ≡ goal → first_wide (met_all (drop (k + 1) xs) (watched s choices w)) ≡ goal
        met_more w goal some before = sym (rest ∙ ap (λ p. first_wide (met_kept (check_of s choices p) (met_all (drop (k + 1) xs)))) some) ∙ before

        pub met_out : (goal : Option Wide) → o ≡ None → first_wide (met_all (drop k xs) (watched s choices here)) ≡ goal → goal ≡ None
        met_out goal broken before = sym before ∙ rest ∙ ap (λ p. first_wide (met_kept (check_of s choices p) (met_all (drop (k + 1) xs)))) broken
