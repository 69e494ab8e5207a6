-- Designs that run today, and those that do not.
use Rattle.std.proofs.Common.{◌≡◌, ℕ, List, Option, None, Some, sym, ap, ◌∙◌}
use Rattle.std.specs.Prelude.{unwrap_or}
use Rattle.std.specs.Option.{option_or}
use Rattle.uc_lexer.specs.declared.place.Place.{Place}
use Rattle.uc_syntax.specs.declared.declaration.Module.{Module}
use Rattle.uc_syntax.specs.Contents.{Contents}
use Rattle.uc_meaning.specs.Lookup.{System, system_of}
use Rattle.uc_runnable.specs.Unfit.{unfit_of}
use Rattle.uc_runnable.specs.Runnable.{IsRunnable}
use Rattle.uc_runnable.specs.Outside.{outside_in}
use Rattle.uc_front.specs.declared.refusal.Refusal.TheVariants.{NotBuilt}
use Rattle.uc_front.specs.Refusals.{front}
use Rattle.uc_front.specs.Denotes.{RunsToday}
use Rattle.uc_front.specs.Errors.{IsStopped}

never_none : (place : Place) → None ≡ Some place → ⊥
never_none place e = cc

-- by a form that does not run
pub stopped_outside : (d : Contents) (main : ℕ) (ms : List Module) (place : Place) → Some place ≡ outside_in ms main → ms ≡ d.modules → IsStopped (system_of d main) (NotBuilt place)
stopped_outside d main ms place is same =
    let outside : outside_in d.modules main ≡ Some place = ap (λ xs. outside_in xs main) (sym same) ∙ sym is in
    (λ r. never_none place (sym r.inside ∙ outside), sym (ap (λ o. unwrap_or (option_or o (unfit_of (system_of d main))) (front 0)) outside))

-- with none
pub stopped_inside : (d : Contents) (main : ℕ) (ms : List Module) (unfit : Option Place) (p : Place) → None ≡ outside_in ms main → ms ≡ d.modules → (IsRunnable (system_of d main) → ⊥) →
    unfit ≡ unfit_of (system_of d main) → p ≡ unwrap_or unfit (front 0) → IsStopped (system_of d main) (NotBuilt p)
stopped_inside d main ms unfit p is same never at place =
    let outside : outside_in d.modules main ≡ None = ap (λ xs. outside_in xs main) (sym same) ∙ sym is in (
      λ r. never r.runnable,
      place ∙ ap (λ u. unwrap_or u (front 0)) at ∙ sym (ap (λ o. unwrap_or (option_or o (unfit_of (system_of d main))) (front 0)) outside),
    )

pub runs_today : (system : System) (d : Contents) (main : ℕ) (ms : List Module) → None ≡ outside_in ms main → ms ≡ d.modules → system ≡ system_of d main → IsRunnable system → RunsToday system
runs_today system d main ms is same over runs = record {
  inside = ap (λ (s : System). outside_in s.modules s.main) over ∙ ap (λ xs. outside_in xs main) (sym same) ∙ sym is;
  runnable = runs;
}
