-- A design that stands still.
use Rattle.std.proofs.Common.{◌≡◌, [], ◌∷◌, refl, ℕ, zero, suc, true}
use Rattle.std.proofs.lemmas.List.Elements.{All-nil, All-cons}
use Rattle.uc_lexer.specs.declared.place.Place.{Place}
use Rattle.uc_syntax.specs.declared.place.Identifier.{Identifier}
use Rattle.uc_syntax.specs.declared.expression.Expr.{Expr}
use Rattle.uc_syntax.specs.declared.declaration.Decl.TheVariants.{Invariant}
use Rattle.uc_meaning.specs.Lookup.{System, instances_of}
use Rattle.uc_meaning.specs.Cells.{instances, instances_from, modules_in_use, cells_of, constants_of, functions_of, FitAll, FitTables, IsState}
use Rattle.uc_meaning.specs.Expressions.{is_true}
use Rattle.uc_meaning.specs.Code.{run_by, run_each}
use Rattle.uc_meaning.specs.Steps.{check_by, check_each, init, init_from, watched_first, scope_of, AllKeep, IsStep, IsInitial}
use Rattle.uc_meaning.specs.Runs.{no_state, Continues, IsRunListing, AxiomsAt}
use Rattle.uc_laws.specs.Laws.{AreApart, one_module, no_interpretation, later, RunsExist}

abbrev lone : Place → Place → Identifier → Expr → System
lone place at i e = one_module place 0 (Invariant at i e ∷ [])

state_fits : (place at : Place) (i : Identifier) (e : Expr) → IsState (lone place at i e) no_state
unfolding instances instances_from cells_of FitAll
state_fits place at i e = tt

stays : (place at : Place) (i : Identifier) (e : Expr) → IsStep (lone place at i e) no_interpretation no_state no_state [] []
unfolding instances instances_from cells_of check_by check_each AllKeep
stays place at i e = record { seen = watched_first no_interpretation no_state no_state []; holds = refl; uses_all = refl; lists = refl; keeps = tt }

begins_so : (place at : Place) (i : Identifier) (e : Expr) → IsInitial (lone place at i e) no_interpretation no_state [] []
unfolding instances instances_from cells_of FitAll init init_from run_by run_each
begins_so place at i e = record {
  begins = tt;
  end = record { scope = scope_of no_interpretation [] no_state; sites = []; left = [] };
  ends = refl;
  reaches = refl;
  uses_all = refl;
  lists = refl;
}

goes_on : (place at : Place) (i : Identifier) (e : Expr) (n : ℕ) → Continues (lone place at i e) no_interpretation no_state [] (later n) []
unfolding Continues later
goes_on place at i e zero = refl
goes_on place at i e (suc n) = (state_fits place at i e, [], stays place at i e, goes_on place at i e n)

pub runs_exist_hold : RunsExist
unfolding instances instances_from modules_in_use constants_of functions_of FitAll FitTables IsRunListing
runs_exist_hold place at i e n = (
  All-cons (λ here. AreApart (instances_of here.code)) _ [] tt (All-nil (λ here. AreApart (instances_of here.code))),
  record { fits = record { constants = tt; tables = tt }; axioms = All-cons (AxiomsAt (lone place at i e) no_interpretation) _ [] (All-nil (λ x. is_true (lone place at i e) (scope_of no_interpretation [] no_state) x ≡ true)) (All-nil (AxiomsAt (lone place at i e) no_interpretation)) },
  ([], (state_fits place at i e, [], begins_so place at i e, goes_on place at i e n)),
)
