-- What is answered of a step, and the cells that keep their values.
use Rattle.std.proofs.Common.{◌≡◌, ℕ, ◌-◌, ◌<◌, List, [], length, drop, Some, None, refl, ap, ◌∙◌, sym, subst, arith, length-drop}
use Rattle.std.specs.List.{flat_map}
use Rattle.std.proofs.lemmas.List.{append-nil}
use Rattle.uc_syntax.specs.declared.declaration.Module.{Module}
use Rattle.uc_syntax.specs.declared.declaration.Decl.{Decl}
use Rattle.uc_values.specs.declared.value.Value.{Value}
use Rattle.uc_meaning.specs.declared.scope.Site.{Site}
use Rattle.uc_meaning.specs.declared.scope.State.{State}
use Rattle.uc_meaning.specs.declared.scope.Scope.{Scope}
use Rattle.uc_meaning.specs.declared.scope.Interp.{Interp}
use Rattle.uc_meaning.specs.Lookup.{System, main_module, next_in, next_of}
use Rattle.uc_meaning.specs.Cells.{cells_of, as_list}
use Rattle.uc_meaning.specs.Steps.{Watched, Check, Kept, Broken, AllKeep, IsStep, check, main_next, step_scope, watched_first}
use Rattle.uc_checks.specs.Watches.{watched}
use Rattle.uc_meaning.specs.Checks.{check_met, step_met}
use Rattle.uc_checks.specs.Levels.{first_seen}

-- ---- main

pub next_of_main : (system : System) (m : Module) (decls : List Decl) → Some m ≡ main_module system → decls ≡ m.decls → flat_map next_in decls ≡ main_next system
next_of_main system m decls found same =
    ap (flat_map next_in) same ∙ sym (append-nil (next_of m)) ∙ ap (λ o. flat_map next_of (as_list o)) found

pub no_main : (system : System) → None ≡ main_module system → [] ≡ main_next system
no_main system none = ap (λ o. flat_map next_of (as_list o)) none

module _ (system : System) (i : Interp) (old new : State) (choices : List Value) where
  pub step_meets : (s : Scope) → s ≡ step_scope i old new → check_met system (main_next system) (watched s choices first_seen) ≡ step_met system i old new choices
  unfolding step_met
  step_meets s is = ap (λ t. check_met system (main_next system) (watched t choices first_seen)) is

-- ---- the answer

seen_of : Watched → Check → Watched
seen_of d (Kept w) = w
seen_of d Broken = d

module _ (system : System) (i : Interp) (old new : State) (choices : List Value) where
  abbrev Checked : Check → Type 0
  Checked c = check system (main_next system) (watched_first i old new choices) ≡ c

  pub no_step : Checked Broken → (sites : List Site) → IsStep system i old new choices sites → ⊥
  no_step broken sites step = let clash : Broken ≡ Kept step.seen = sym broken ∙ step.holds in cc

  module _ (w : Watched) (kept : Checked (Kept w)) where
    same_seen : (sites : List Site) (step : IsStep system i old new choices sites) → step.seen ≡ w
    unfolding seen_of
    same_seen sites step = sym (ap (seen_of w) (sym kept ∙ step.holds))

    pub is_step : w.left ≡ [] → AllKeep w.written 0 (cells_of system) old.cells new.cells → IsStep system i old new choices w.sites
    is_step none keeps = record { seen = w; holds = kept; uses_all = none; lists = refl; keeps = keeps }

    pub choices_left : (w.left ≡ [] → ⊥) → (sites : List Site) → IsStep system i old new choices sites → ⊥
    choices_left some sites step = some (ap (λ (v : Watched). v.left) (sym (same_seen sites step)) ∙ step.uses_all)

    pub cells_change : (AllKeep w.written 0 (cells_of system) old.cells new.cells → ⊥) → (sites : List Site) → IsStep system i old new choices sites → ⊥
    cells_change other sites step = other (subst (λ (v : Watched). AllKeep v.written 0 (cells_of system) old.cells new.cells) (same_seen sites step) step.keeps)

pub some_left : (choices : List Value) (used : ℕ) → used < length choices → drop used choices ≡ [] → ⊥
some_left choices used more none = let count : length choices - used ≡ 0 = sym (length-drop used choices) ∙ ap length none in absurd (omega (arith, count))
