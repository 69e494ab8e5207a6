-- Whether a state is initial, from how all init code ends.
use Rattle.std.proofs.Common.{◌≡◌, ℕ, zero, suc, ◌+◌, ◌≤◌, List, [], ◌∷◌, length, take, drop, Option, Some, None, Bool, true, false, refl, ap, ◌∙◌, sym, subst, arith}
use Rattle.std.specs.Prelude.{if◌then◌else◌, IsTrue}
use Rattle.uc_values.specs.declared.ty.Ty.{Ty}
use Rattle.uc_values.specs.declared.value.Value.{Value}
use Rattle.uc_values.specs.Values.{fits}
use Rattle.uc_meaning.specs.declared.scope.Site.{Site}
use Rattle.uc_meaning.specs.declared.scope.State.{State}
use Rattle.uc_meaning.specs.declared.scope.Interp.{Interp}
use Rattle.uc_meaning.specs.declared.code.CodeEnd.{CodeEnd}
use Rattle.uc_meaning.specs.declared.code.CodeEnd.TheVariants.{Ended, Stopped as AnsweredStopped, BadChoice}
use Rattle.uc_meaning.specs.Lookup.{System}
use Rattle.uc_meaning.specs.Cells.{FitAll, cells_of}
use Rattle.uc_meaning.specs.Code.{Ending, Goes, Stopped, Unfit}
use Rattle.uc_meaning.specs.Steps.{init, IsInitial}
use Rattle.uc_meaning.specs.Ends.{IsEnd, IsInitEndAt, IsInitEnd, first_unfit, cell_types, init_begun}
use Rattle.uc_executions.specs.Starts.{IsAt, IsStartAnswer}
use Rattle.uc_executions.proofs.Inits.{as_many_cells}

-- all values fit exactly where the first that does not is none
fit_none : (n : ℕ) (ts : List Ty) (vs : List Value) → FitAll ts (take (length ts) vs) → first_unfit n ts vs ≡ None
unfolding FitAll
fit_none n [] vs fit = refl
fit_none n (t ∷ ts) [] fit = absurd fit
fit_none n (t ∷ ts) (v ∷ vs) fit = ap (λ b. if b then first_unfit (n + 1) ts vs else Some n) fit.0 ∙ fit_none (n + 1) ts vs fit.1

none_fit : (n : ℕ) (ts : List Ty) (vs : List Value) → first_unfit n ts vs ≡ None → FitAll ts (take (length ts) vs)
unfolding FitAll
none_fit n [] vs none = tt
none_fit n (t ∷ ts) [] none = absurd (cc)
none_fit n (t ∷ ts) (v ∷ vs) none = by (fits t v) refl none (none_fit (n + 1) ts vs)
  where
    by : (b : Bool) → fits t v ≡ b → (if b then first_unfit (n + 1) ts vs else Some n) ≡ None → (first_unfit (n + 1) ts vs ≡ None → FitAll ts (take (length ts) vs)) →
        IsTrue (fits t v) × FitAll ts (take (length ts) vs)
    by true is rest more = (is, more rest)
    by false is rest more = absurd (cc)

none_left : {A : Type 0} (n : ℕ) (xs : List A) → drop n xs ≡ [] → n ≤ length xs → n ≡ length xs
none_left zero [] is within = refl
none_left zero (x ∷ xs) is within = absurd (cc)
none_left (suc n) [] is within = absurd (omega (arith, within))
none_left (suc n) (x ∷ xs) is within = ap suc (none_left n xs is (omega (arith, within)))

all_taken : {A : Type 0} (n : ℕ) (xs : List A) → n ≡ length xs → drop n xs ≡ []
all_taken zero [] is = refl
all_taken zero (x ∷ xs) is = absurd (omega (arith, is))
all_taken (suc n) [] is = absurd (omega (arith, is))
all_taken (suc n) (x ∷ xs) is = all_taken n xs (omega (arith, is))

module _ (system : System) (i : Interp) (s : State) (choices : List Value) where
  cells : length (cell_types system) ≡ length (cells_of system)
  cells = as_many_cells system (cell_types system) refl

  begins_fit : FitAll (cell_types system) (take (length (cells_of system)) choices) → first_unfit 0 (cell_types system) choices ≡ None
  begins_fit begins = fit_none 0 (cell_types system) choices (subst (λ n. FitAll (cell_types system) (take n choices)) (sym cells) begins)

  -- where code ends in the state with all choices taken, the state is initial
  is_initial : (end : CodeEnd) (sites : List Site) (ending : Ending) → first_unfit 0 (cell_types system) choices ≡ None → init system (init_begun system i choices) ≡ ending →
      IsEnd choices end ending → IsAt end (length choices) s (Some sites) → IsInitial system i s choices sites
  is_initial (Ended scope violated used) sites (Goes r) fit runs ends at = record {
    begins = subst (λ n. FitAll (cell_types system) (take n choices)) cells (none_fit 0 (cell_types system) choices fit);
    end = r;
    ends = runs;
    reaches = ap (λ t. t.before) (sym ends.0) ∙ at.2;
    uses_all = sym ends.2 ∙ all_taken used choices at.1;
    lists = sym ends.1 ∙ at.0;
  }
  is_initial (Ended scope violated used) sites Stopped fit runs ends at = absurd ends
  is_initial (Ended scope violated used) sites (Unfit left) fit runs ends at = absurd ends
  is_initial AnsweredStopped sites ending fit runs ends at = absurd at
  is_initial (BadChoice n) sites ending fit runs ends at = absurd at

  -- and where it is initial, code ends so
  ends_there : (end : CodeEnd) (sites : List Site) (h : IsInitial system i s choices sites) → IsEnd choices end (Goes h.end) → IsAt end (length choices) s None → ⊥
  ends_there (Ended scope violated used) sites h ends at =
      at (none_left used choices (ends.2 ∙ h.uses_all) ends.3) (ap (λ t. t.before) ends.0 ∙ h.reaches)
  ends_there AnsweredStopped sites h ends at = ends
  ends_there (BadChoice n) sites h ends at = ends

  unlike : (end : CodeEnd) (n : ℕ) (sites : List Site) → end ≡ BadChoice n → IsAt end (length choices) s (Some sites) → ⊥
  unlike end n sites is at = subst (λ e. IsAt e (length choices) s (Some sites)) is at

  answered : (end : CodeEnd) (answer : Option (List Site)) (o : Option ℕ) → first_unfit 0 (cell_types system) choices ≡ o → IsInitEndAt system i choices end o →
      IsAt end (length choices) s answer → IsStartAnswer system i s choices answer
  answered end (Some sites) (Some n) fit ends at = absurd (unlike end n sites ends at)
  answered end (Some sites) None fit ends at = is_initial end sites (init system (init_begun system i choices)) fit refl ends at
  answered end None (Some n) fit ends at = λ sites h. let clash : Some n ≡ None = sym fit ∙ begins_fit h.begins in absurd (cc)
  answered end None None fit ends at = λ sites h. ends_there end sites h (subst (IsEnd choices end) h.ends ends) at

  pub start_answer : (end : CodeEnd) (answer : Option (List Site)) → IsInitEnd system i choices end → IsAt end (length choices) s answer → IsStartAnswer system i s choices answer
  start_answer end answer ends at = answered end answer (first_unfit 0 (cell_types system) choices) refl ends at
