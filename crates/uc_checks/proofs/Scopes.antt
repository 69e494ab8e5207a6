-- What is asked in the scope of a turn and of an instance, and calls one level above their bodies.
use Rattle.std.proofs.Common.{◌≡◌, ℕ, zero, suc, ◌-◌, List, [], Option, Some, None, refl, ap, ◌∙◌, sym, arith}
use Rattle.std.specs.Prelude.{Result, Ok, Err, IfOk}
use Rattle.std.specs.List.{flat_map}
use Rattle.uc_syntax.specs.declared.statement.Target.{Target}
use Rattle.uc_syntax.specs.declared.statement.Stmt.{Stmt}
use Rattle.uc_syntax.specs.declared.declaration.Decl.{Decl}
use Rattle.uc_syntax.specs.declared.declaration.Module.{Module}
use Rattle.uc_values.specs.declared.value.Value.{Value}
use Rattle.uc_meaning.specs.declared.scope.Scope.{Scope}
use Rattle.uc_meaning.specs.declared.overflow.Wide.{Wide}
use Rattle.uc_meaning.specs.Lookup.{System, next_in, next_of}
use Rattle.uc_meaning.specs.Expressions.{at_path}
use Rattle.uc_meaning.specs.Code.{run_by, run_through, Ending as HowItEnds, Goes as GoesOn, Stopped as IsStopped, Unfit}
use Rattle.uc_meaning.specs.Steps.{Watched, Check, Kept, Broken, then_check, back_in, check_through, check_instance, check_call}
use Rattle.uc_meaning.specs.OverflowsRuns.{run_met_by, run_met_through}
use Rattle.uc_meaning.specs.Checks.{check_met_through, instance_met}
use Rattle.uc_checks.specs.declared.seen.Seen.{Seen}
use Rattle.uc_checks.specs.Watches.{watched, check_of, before_call}
use Rattle.uc_checks.specs.Levels.{check_at, check_met_at}

-- what is asked in another scope, back in this one
pub rescoped : (s t : Scope) (choices : List Value) (o : Option Seen) → check_of s choices o ≡ then_check (check_of t choices o) (λ w. Kept (record w { scope = s }))
rescoped s t choices None = refl
rescoped s t choices (Some w) = refl

-- ---- levels

check_level : (n : ℕ) (system : System) (code : List Stmt) (w : Watched) → check_through (suc n) system code w ≡ check_at n system code w
unfolding check_through
check_level n system code w = refl

met_level : (n : ℕ) (system : System) (code : List Stmt) (w : Watched) → check_met_through (suc n) system code w ≡ check_met_at n system code w
unfolding check_met_through
met_level n system code w = refl

pub inside_asks : (n : ℕ) (system : System) (code : List Stmt) (w : Watched) → (n ≡ 0 → ⊥) → check_at (n - 1) system code w ≡ check_through n system code w
inside_asks zero system code w some = absurd (some refl)
inside_asks (suc n) system code w some = let one : suc n - 1 ≡ n = omega arith in ap (λ k. check_at k system code w) one ∙ sym (check_level n system code w)

pub inside_meets : (n : ℕ) (system : System) (code : List Stmt) (w : Watched) → (n ≡ 0 → ⊥) → check_met_at (n - 1) system code w ≡ check_met_through n system code w
inside_meets zero system code w some = absurd (some refl)
inside_meets (suc n) system code w some = let one : suc n - 1 ≡ n = omega arith in ap (λ k. check_met_at k system code w) one ∙ sym (met_level n system code w)

none_inside : (n : ℕ) (system : System) (code : List Stmt) (w : Watched) → n ≡ 0 → check_through n system code w ≡ Broken
unfolding check_through
none_inside n system code w none = ap (λ k. check_through k system code w) none

none_met_inside : (n : ℕ) (system : System) (code : List Stmt) (w : Watched) → n ≡ 0 → check_met_through n system code w ≡ []
unfolding check_met_through
none_met_inside n system code w none = ap (λ k. check_met_through k system code w) none

-- ---- the step of an instance

module _ (n : ℕ) (system : System) (s : Scope) (choices : List Value) (seen : Seen) (path : List ℕ) where
  abbrev pub asks_instance : Option Module → Check
  asks_instance m = check_instance (check_through n system) path m (watched s choices seen)

  abbrev pub meets_instance : Option Module → List Wide
  meets_instance m = instance_met (check_met_through n system) path m (watched s choices seen)

  pub no_instance : (o : Option Module) → None ≡ o → Broken ≡ asks_instance o
  no_instance o none = ap asks_instance none

  pub no_instance_met : (o : Option Module) → None ≡ o → [] ≡ meets_instance o
  no_instance_met o none = ap meets_instance none

  module _ (m : Module) (o : Option Module) (found : Some m ≡ o) where
    pub too_deep : n ≡ 0 → Broken ≡ asks_instance o
    too_deep none = sym (ap (λ c. then_check c (back_in s)) (none_inside n system (next_of m) (watched (at_path s path) choices seen) none)) ∙ ap asks_instance found

    pub too_deep_met : n ≡ 0 → [] ≡ meets_instance o
    too_deep_met none = sym (none_met_inside n system (next_of m) (watched (at_path s path) choices seen) none) ∙ ap meets_instance found

    module _ (some : n ≡ 0 → ⊥) (decls : List Decl) (same : decls ≡ m.decls) (t : Scope) (there : t ≡ at_path s path) where
      pub instance_asks : (answer : Option Seen) → check_of t choices answer ≡ check_at (n - 1) system (flat_map next_in decls) (watched t choices seen) → check_of s choices answer ≡ asks_instance o
      instance_asks answer asked =
          rescoped s t choices answer
          ∙ ap (λ c. then_check c (back_in s)) (asked ∙ (λ i. check_at (n - 1) system (flat_map next_in (same i)) (watched (there i) choices seen)) ∙ inside_asks n system (next_of m) (watched (at_path s path) choices seen) some)
          ∙ ap asks_instance found

      pub instance_gives : {E : Type 0} (result : Result (Option Seen) E) → IfOk result (λ answer. check_of t choices answer ≡ check_at (n - 1) system (flat_map next_in decls) (watched t choices seen)) → IfOk result (λ answer. check_of s choices answer ≡ asks_instance o)
      instance_gives (Ok answer) asked = instance_asks answer asked
      instance_gives (Err e) asked = tt

      pub instance_meets : check_met_at (n - 1) system (flat_map next_in decls) (watched t choices seen) ≡ meets_instance o
      instance_meets = (λ i. check_met_at (n - 1) system (flat_map next_in (same i)) (watched (there i) choices seen)) ∙ inside_meets n system (next_of m) (watched (at_path s path) choices seen) some ∙ ap meets_instance found

-- ---- calls

pub whole_run : (n : ℕ) (system : System) → run_through (suc n) system ≡ run_by system (run_through n system)
unfolding run_through
whole_run n system = refl

pub whole_met : (n : ℕ) (system : System) → run_met_through (suc n) system ≡ run_met_by system (run_through n system) (run_met_through n system)
unfolding run_met_through
whole_met n system = refl

-- an answer for all choices is one for some
pub for_choices : {E : Type 0} (s : Scope) (g : List Value → Check) (choices : List Value) (result : Result (Option Seen) E) → IfOk result (λ o. (cs : List Value) → check_of s cs o ≡ g cs) → IfOk result (λ o. check_of s choices o ≡ g choices)
for_choices s g choices (Ok o) gives = gives choices
for_choices s g choices (Err e) gives = tt

-- a call asks the same whatever was listed and left before it
pub call_same : (system : System) (targets : List Target) (f : ℕ) (s : Scope) (choices : List Value) (seen : Seen) (e : HowItEnds) →
    check_call system targets f (before_call s seen.written) e ≡ check_call system targets f (watched s choices seen) e
call_same system targets f s choices seen (GoesOn r) = refl
call_same system targets f s choices seen IsStopped = refl
call_same system targets f s choices seen (Unfit left) = refl
