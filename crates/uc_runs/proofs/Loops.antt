-- Code that runs for each element of a list, one turn after another.
use Rattle.std.proofs.Common.{◌≡◌, ℕ, ◌+◌, ◌<◌, ◌≤◌, List, [], ◌∷◌, ◌++◌, length, drop, get_or, Option, None, ap, ◌∙◌, sym, subst}
use Rattle.std.specs.Prelude.{Err}
use Rattle.std.proofs.lemmas.List.{drop_all, drop_more}
use Rattle.uc_values.specs.declared.value.Value.{Value}
use Rattle.uc_meaning.specs.declared.overflow.Wide.{Wide}
use Rattle.uc_meaning.specs.Code.{Running, Execution, Ending as HowItEnds, Goes as GoesOn, then_run}
use Rattle.uc_meaning.specs.OverflowsRuns.{RunMet, met_after}
use Rattle.uc_operators.specs.declared.error.EvalError.{EvalError}
use Rattle.uc_operators.specs.Overflows.{first_wide, TellsWide}
use Rattle.uc_evaluator.proofs.Told.{none_first, told_first}
use Rattle.uc_runs.specs.declared.run.Run.{Run}
use Rattle.uc_runs.specs.declared.run.Ending.{Ending}
use Rattle.uc_runs.specs.declared.run.Ending.TheVariants.{Goes}
use Rattle.uc_runs.specs.Runs.{running, ending_of}
use Rattle.uc_runs.proofs.Places.{stays, meets_none}

parted : {A : Type 0} (xs : List A) (k : ℕ) (x d : A) → k < length xs → x ≡ get_or xs k d → drop k xs ≡ x ∷ drop (k + 1) xs
parted xs k x d within is = drop_more xs k d within ∙ ap (λ y. y ∷ drop (k + 1) xs) (sym is)

module _ {A : Type 0} (one : A → Execution) (all : List A → Execution)
    (none : (r : Running) → all [] r ≡ GoesOn r)
    (next : (x : A) (xs : List A) (r : Running) → all (x ∷ xs) r ≡ then_run (one x r) (all xs)) where
  module _ (choices : List Value) (xs : List A) (k : ℕ) (here : Run) where
    pub runs_end : (goal : HowItEnds) → length xs ≤ k → all (drop k xs) (running choices here) ≡ goal → GoesOn (running choices here) ≡ goal
    runs_end goal past before = sym (none (running choices here)) ∙ ap (λ ys. all ys (running choices here)) (sym (drop_all k xs past)) ∙ before

    module _ (x d : A) (within : k < length xs) (is : x ≡ get_or xs k d) (e : Ending) (runs : ending_of choices e ≡ one x (running choices here)) where
      turn : all (drop k xs) (running choices here) ≡ then_run (ending_of choices e) (all (drop (k + 1) xs))
      turn =
          ap (λ ys. all ys (running choices here)) (parted xs k x d within is)
          ∙ next x (drop (k + 1) xs) (running choices here)
          ∙ ap (λ end. then_run end (all (drop (k + 1) xs))) (sym runs)

      pub runs_more : (r : Run) (goal : HowItEnds) → e ≡ Goes r → all (drop k xs) (running choices here) ≡ goal → all (drop (k + 1) xs) (running choices r) ≡ goal
      runs_more r goal goes before = sym (turn ∙ ap (λ f. then_run (ending_of choices f) (all (drop (k + 1) xs))) goes) ∙ before

      pub runs_out : (goal : HowItEnds) → ((r : Run) → e ≡ Goes r → ⊥) → all (drop k xs) (running choices here) ≡ goal → ending_of choices e ≡ goal
      runs_out goal other before = sym (turn ∙ stays choices e (all (drop (k + 1) xs)) other) ∙ before

  module _ (met_one : A → RunMet) (met_all : List A → RunMet)
      (met_none : (r : Running) → met_all [] r ≡ [])
      (met_next : (x : A) (xs : List A) (r : Running) → met_all (x ∷ xs) r ≡ met_one x r ++ met_after (one x r) (met_all xs))
      (choices : List Value) (xs : List A) (k : ℕ) (here : Run) where
    pub met_end : (goal : Option Wide) → length xs ≤ k → first_wide (met_all (drop k xs) (running choices here)) ≡ goal → goal ≡ None
    met_end goal past before =
        sym before ∙ ap (λ ys. first_wide (met_all ys (running choices here))) (drop_all k xs past) ∙ ap first_wide (met_none (running choices here))

    module _ (x d : A) (within : k < length xs) (is : x ≡ get_or xs k d) where
      split : met_all (drop k xs) (running choices here) ≡ met_one x (running choices here) ++ met_after (one x (running choices here)) (met_all (drop (k + 1) xs))
      split = ap (λ ys. met_all ys (running choices here)) (parted xs k x d within is) ∙ met_next x (drop (k + 1) xs) (running choices here)

      pub met_told : (X Y : Type 0) (goal : Option Wide) (error : EvalError) → first_wide (met_all (drop k xs) (running choices here)) ≡ goal →
          TellsWide {A = X} (first_wide (met_one x (running choices here))) (Err error) → TellsWide {A = Y} goal (Err error)
      met_told X Y goal error before told =
          subst (λ o. TellsWide {A = Y} o (Err error)) (sym (ap first_wide split) ∙ before)
          (told_first X Y (met_one x (running choices here)) (met_after (one x (running choices here)) (met_all (drop (k + 1) xs))) error told)

      module _ (e : Ending) (runs : ending_of choices e ≡ one x (running choices here)) (fine : first_wide (met_one x (running choices here)) ≡ None) where
        rest : first_wide (met_all (drop k xs) (running choices here)) ≡ first_wide (met_after (ending_of choices e) (met_all (drop (k + 1) xs)))
        rest =
            ap first_wide split
            ∙ none_first (met_one x (running choices here)) (met_after (one x (running choices here)) (met_all (drop (k + 1) xs))) fine
            ∙ ap (λ end. first_wide (met_after end (met_all (drop (k + 1) xs)))) (sym runs)

        pub met_more : (r : Run) (goal : Option Wide) → e ≡ Goes r → first_wide (met_all (drop k xs) (running choices here)) ≡ goal → first_wide (met_all (drop (k + 1) xs) (running choices r)) ≡ goal
        met_more r goal goes before = sym (rest ∙ ap (λ f. first_wide (met_after (ending_of choices f) (met_all (drop (k + 1) xs)))) goes) ∙ before

        pub met_out : (goal : Option Wide) → ((r : Run) → e ≡ Goes r → ⊥) → first_wide (met_all (drop k xs) (running choices here)) ≡ goal → goal ≡ None
        met_out goal other before = sym before ∙ rest ∙ ap first_wide (meets_none choices e (met_all (drop (k + 1) xs)) other)
