-- One target after another.
use Rattle.std.proofs.Common.{◌≡◌, ℕ, ◌+◌, ◌<◌, ◌≤◌, false, List, [], ◌∷◌, ◌++◌, length, drop, get_or, Option, Some, None, refl, ap, ◌∙◌, sym, subst}
use Rattle.std.specs.Prelude.{Err, slice_get}
use Rattle.std.proofs.lemmas.List.{drop_all}
use Rattle.uc_syntax.specs.declared.statement.Target.{Target}
use Rattle.uc_syntax.specs.declared.statement.TargetPart.{TargetPart}
use Rattle.uc_values.specs.declared.value.Value.{Value}
use Rattle.uc_meaning.specs.declared.scope.Scope.{Scope}
use Rattle.uc_meaning.specs.declared.overflow.Wide.{Wide}
use Rattle.uc_meaning.specs.Lookup.{System}
use Rattle.uc_meaning.specs.Overflow.{met, name_met}
use Rattle.uc_meaning.specs.Code.{write, write_all}
use Rattle.uc_meaning.proofs.Lists.{drop_at, drop_past, drop_turn}
use Rattle.uc_meaning.proofs.Writes.{write_all_past, write_all_end}
use Rattle.uc_meaning.specs.OverflowsRuns.{target_met, targets_met}
use Rattle.uc_operators.specs.declared.error.EvalError.{EvalError}
use Rattle.uc_operators.specs.Overflows.{first_wide, TellsWide}
use Rattle.uc_evaluator.proofs.Told.{none_first, told_first}
use Rattle.uc_runs.specs.Targets.{parts_met}

-- a target without parts is written without being read
pub alone_met : (system : System) (s : Scope) (x : ℕ) (parts : List TargetPart) → parts ≡ [] → [] ≡ target_met system s x parts
alone_met system s x parts none = ap (target_met system s x) (sym none)

pub behind_met : (system : System) (s : Scope) (x : ℕ) (parts : List TargetPart) → (parts ≡ [] → ⊥) → name_met system (met system) s x false ++ parts_met system s parts ≡ target_met system s x parts
behind_met system s x [] some = absurd (some refl)
behind_met system s x (p ∷ ps) some = refl

module _ (system : System) (ts : List Target) (vs : List Value) (k : ℕ) where
  module _ (t : Target) (v : Value) (within : k < length ts) (is : t ≡ get_or ts k t) (given : Some v ≡ slice_get vs k) where
    pub written_turn : (here next r : Scope) → next ≡ write system here t v → write_all system (drop k ts) (drop k vs) here ≡ r → write_all system (drop (k + 1) ts) (drop (k + 1) vs) next ≡ r
    unfolding write_all
    written_turn here next r step before =
        ap (write_all system (drop (k + 1) ts) (drop (k + 1) vs)) step
        ∙ sym (ap (λ xs. write_all system xs (drop k vs) here) (drop_turn ts k t within is) ∙ ap (λ ys. write_all system (t ∷ drop (k + 1) ts) ys here) (drop_at vs k v (sym given)))
        ∙ before

    split_met : (here : Scope) → targets_met system (drop k ts) (drop k vs) here ≡ target_met system here t.name t.parts ++ targets_met system (drop (k + 1) ts) (drop (k + 1) vs) (write system here t v)
    unfolding targets_met
    split_met here =
        ap (λ xs. targets_met system xs (drop k vs) here) (drop_turn ts k t within is) ∙ ap (λ ys. targets_met system (t ∷ drop (k + 1) ts) ys here) (drop_at vs k v (sym given))

    pub met_turn : (here next : Scope) (r : Option Wide) → next ≡ write system here t v → first_wide (target_met system here t.name t.parts) ≡ None → first_wide (targets_met system (drop k ts) (drop k vs) here) ≡ r →
        first_wide (targets_met system (drop (k + 1) ts) (drop (k + 1) vs) next) ≡ r
    met_turn here next r step none before =
        ap (λ s. first_wide (targets_met system (drop (k + 1) ts) (drop (k + 1) vs) s)) step
        ∙ sym (ap first_wide (split_met here) ∙ none_first (target_met system here t.name t.parts) (targets_met system (drop (k + 1) ts) (drop (k + 1) vs) (write system here t v)) none)
        ∙ before

    pub met_told : (A B : Type 0) (here : Scope) (r : Option Wide) (e : EvalError) → first_wide (targets_met system (drop k ts) (drop k vs) here) ≡ r → TellsWide {A = A} (first_wide (target_met system here t.name t.parts)) (Err e) → TellsWide {A = B} r (Err e)
    met_told A B here r e before told =
        subst (λ o. TellsWide {A = B} o (Err e)) (sym (ap first_wide (split_met here)) ∙ before)
        (told_first A B (target_met system here t.name t.parts) (targets_met system (drop (k + 1) ts) (drop (k + 1) vs) (write system here t v)) e told)

  no_values : (xs : List Target) (here : Scope) → targets_met system xs [] here ≡ []
  unfolding targets_met
  no_values [] here = refl
  no_values (x ∷ xs) here = refl

  pub written_past : (here r : Scope) → None ≡ slice_get vs k → write_all system (drop k ts) (drop k vs) here ≡ r → here ≡ r
  written_past here r none before = sym (write_all_past system ts vs k here (sym none)) ∙ before

  pub met_past : (here : Scope) (r : Option Wide) → None ≡ slice_get vs k → first_wide (targets_met system (drop k ts) (drop k vs) here) ≡ r → r ≡ None
  met_past here r none before = sym before ∙ ap (λ ys. first_wide (targets_met system (drop k ts) ys here)) (drop_past vs k (sym none)) ∙ ap first_wide (no_values (drop k ts) here)

  pub written_end : (here r : Scope) → length ts ≤ k → write_all system (drop k ts) (drop k vs) here ≡ r → here ≡ r
  written_end here r past before = sym (write_all_end system ts vs k here past) ∙ before

  pub met_end : (here : Scope) (r : Option Wide) → length ts ≤ k → first_wide (targets_met system (drop k ts) (drop k vs) here) ≡ r → r ≡ None
  unfolding targets_met
  met_end here r past before = sym before ∙ ap (λ xs. first_wide (targets_met system xs (drop k vs) here)) (drop_all k ts past)
