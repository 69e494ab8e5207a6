-- How code ends, where no more choices are taken than there are.
use Rattle.std.proofs.Common.{◌≡◌, ℕ, ◌≤◌, min, List, length, drop, refl, ap, ◌∙◌, sym, subst, arith}
use Rattle.std.proofs.lemmas.List.{drop_min}
use Rattle.uc_values.specs.declared.value.Value.{Value}
use Rattle.uc_meaning.specs.declared.code.CodeEnd.{CodeEnd}
use Rattle.uc_meaning.specs.declared.code.CodeEnd.TheVariants.{Ended, Stopped as AnsweredStopped, BadChoice as AnsweredBadChoice}
use Rattle.uc_meaning.specs.Ends.{IsEnd}
use Rattle.uc_runs.specs.declared.run.Run.{Run}
use Rattle.uc_runs.specs.declared.run.Ending.{Ending}
use Rattle.uc_runs.specs.declared.run.Ending.TheVariants.{Goes, Stopped, BadChoice}
use Rattle.uc_runs.specs.Runs.{ending_of}

as_many : {A : Type 0} (xs : List A) (n count : ℕ) → length xs ≡ count → drop (min n count) xs ≡ drop n xs
as_many xs n count is = ap (λ m. drop (min n m) xs) (sym is) ∙ drop_min n xs

no_more : {A : Type 0} (xs : List A) (n count : ℕ) → length xs ≡ count → min n count ≤ length xs
no_more xs n count is = omega (arith, is)

module _ (choices : List Value) (count : ℕ) (all : length choices ≡ count) (end : Ending) where
  pub goes_end : (r : Run) (answer : CodeEnd) → end ≡ Goes r → answer ≡ Ended r.scope r.violated (min r.used count) → IsEnd choices answer (ending_of choices end)
  goes_end r answer is said =
      subst (λ a. IsEnd choices a (ending_of choices end)) (sym said)
      (subst (λ e. IsEnd choices (Ended r.scope r.violated (min r.used count)) (ending_of choices e)) (sym is) (refl, refl, as_many choices r.used count all, no_more choices r.used count all))

  pub stopped_end : end ≡ Stopped → IsEnd choices AnsweredStopped (ending_of choices end)
  stopped_end is = subst (λ e. IsEnd choices AnsweredStopped (ending_of choices e)) (sym is) tt

  pub unfit_end : (n m : ℕ) → end ≡ BadChoice n → m ≡ min n count → IsEnd choices (AnsweredBadChoice m) (ending_of choices end)
  unfit_end n m is least =
      subst (λ k. IsEnd choices (AnsweredBadChoice k) (ending_of choices end)) (sym least)
      (subst (λ e. IsEnd choices (AnsweredBadChoice (min n count)) (ending_of choices e)) (sym is) (as_many choices n count all, no_more choices n count all))
