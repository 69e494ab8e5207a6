-- One target after another.
use Rattle.std.proofs.Common.{◌≡◌, ℕ, ◌+◌, ◌<◌, ◌≤◌, Bool, true, false, List, [], ◌∷◌, ◌++◌, length, drop, get_or, Option, Some, None, refl, ap, ◌∙◌, sym, subst, append_assoc}
use Rattle.std.specs.Prelude.{Err, slice_get, if◌then◌else◌}
use Rattle.std.proofs.lemmas.List.{drop_all}
use Rattle.uc_syntax.specs.declared.statement.Target.{Target}
use Rattle.uc_values.specs.declared.value.Value.{Value}
use Rattle.uc_meaning.specs.declared.scope.Scope.{Scope}
use Rattle.uc_meaning.specs.Lookup.{System}
use Rattle.uc_meaning.specs.Overflow.{met, name_met}
use Rattle.uc_meaning.specs.Steps.{Watched, Kept, Broken, then_check, kept_if, is_assigned, check_targets, writes, target_parts}
use Rattle.uc_meaning.proofs.Lists.{drop_at, drop_past, drop_turn}
use Rattle.uc_meaning.specs.OverflowsRuns.{target_met}
use Rattle.uc_meaning.specs.Checks.{assigned_met}
use Rattle.uc_operators.specs.declared.error.EvalError.{EvalError}
use Rattle.uc_operators.specs.Overflows.{first_wide, TellsWide}
use Rattle.uc_evaluator.proofs.Told.{none_first, told_first}
use Rattle.uc_checks.specs.declared.seen.Seen.{Seen}
use Rattle.uc_checks.specs.Watches.{watched, check_of, Asks}
use Rattle.uc_checks.specs.Asked.{check_target, one_assigned_met}

-- whether a condition was kept
pub kept_true : (b : Bool) (x y : Watched) → Kept x ≡ kept_if b y → b ≡ true
kept_true true x y e = refl
kept_true false x y e = cc

pub broken_false : (b : Bool) (y : Watched) → Broken ≡ kept_if b y → b ≡ false
broken_false true y e = cc
broken_false false y e = refl

-- a condition with what is written where it is kept
module _ (s : Scope) (start : Seen) (b c : Bool) (same : b ≡ c) (f : Watched → Watched) where
  pub asks_none : b ≡ false → Asks s start (λ w. kept_if c (f w)) None
  asks_none is choices = ap (λ d. kept_if d (f (watched s choices start))) (sym is ∙ same)

  pub asks_some : (w : Seen) → b ≡ true → ((choices : List Value) → watched s choices w ≡ f (watched s choices start)) → Asks s start (λ w. kept_if c (f w)) (Some w)
  asks_some w is grown choices = ap Kept (grown choices) ∙ ap (λ d. kept_if d (f (watched s choices start))) (sym is ∙ same)

module _ (system : System) (ts : List Target) (vs : List Value) (k : ℕ) (s : Scope) (start here : Seen) where
  abbrev pub AskedFrom : Type 0
  AskedFrom = (choices : List Value) → check_targets system (drop k ts) (drop k vs) (watched s choices here) ≡ check_targets system ts vs (watched s choices start)

  abbrev pub MetFrom : Type 0
  MetFrom = first_wide (assigned_met system (drop k ts) (drop k vs) s) ≡ first_wide (assigned_met system ts vs s)

  module _ (t : Target) (v : Value) (within : k < length ts) (is : t ≡ get_or ts k t) (given : Some v ≡ slice_get vs k) where
    split : (w : Watched) → check_targets system (drop k ts) (drop k vs) w ≡ then_check (kept_if (is_assigned system w.scope t v) (writes (target_parts system w.scope t) w)) (check_targets system (drop (k + 1) ts) (drop (k + 1) vs))
    unfolding check_targets
    split w = ap (λ xs. check_targets system xs (drop k vs) w) (drop_turn ts k t within is) ∙ ap (λ ys. check_targets system (t ∷ drop (k + 1) ts) ys w) (drop_at vs k v (sym given))

    turn : (o : Option Seen) → Asks s here (check_target system t v) o → (choices : List Value) →
        check_targets system (drop k ts) (drop k vs) (watched s choices here) ≡ then_check (check_of s choices o) (check_targets system (drop (k + 1) ts) (drop (k + 1) vs))
    turn o asks choices = split (watched s choices here) ∙ ap (λ c. then_check c (check_targets system (drop (k + 1) ts) (drop (k + 1) vs))) (sym (asks choices))

    pub asked_more : (next : Seen) (o : Option Seen) → o ≡ Some next → Asks s here (check_target system t v) o → AskedFrom → (choices : List Value) →
        check_targets system (drop (k + 1) ts) (drop (k + 1) vs) (watched s choices next) ≡ check_targets system ts vs (watched s choices start)
    asked_more next o some asks before choices =
        sym (turn o asks choices ∙ ap (λ p. then_check (check_of s choices p) (check_targets system (drop (k + 1) ts) (drop (k + 1) vs))) some) ∙ before choices

    pub asked_out : (o : Option Seen) → o ≡ None → Asks s here (check_target system t v) o → AskedFrom → Asks s start (check_targets system ts vs) None
    asked_out o none asks before choices =
        sym (turn o asks choices ∙ ap (λ p. then_check (check_of s choices p) (check_targets system (drop (k + 1) ts) (drop (k + 1) vs))) none) ∙ before choices

    split_met : assigned_met system (drop k ts) (drop k vs) s ≡ one_assigned_met system s t ++ (if is_assigned system s t v then assigned_met system (drop (k + 1) ts) (drop (k + 1) vs) s else [])
    unfolding assigned_met
    split_met =
        ap (λ xs. assigned_met system xs (drop k vs) s) (drop_turn ts k t within is)
        ∙ ap (λ ys. assigned_met system (t ∷ drop (k + 1) ts) ys s) (drop_at vs k v (sym given))
        ∙ sym (append_assoc (name_met system (met system) s t.name true) (target_met system s t.name t.parts) _)

    rest_met : (b : Bool) → is_assigned system s t v ≡ b → first_wide (one_assigned_met system s t) ≡ None →
        first_wide (assigned_met system (drop k ts) (drop k vs) s) ≡ first_wide (if b then assigned_met system (drop (k + 1) ts) (drop (k + 1) vs) s else [])
    rest_met b holds fine =
        ap first_wide split_met
        ∙ none_first (one_assigned_met system s t) _ fine
        ∙ ap (λ c. first_wide (if c then assigned_met system (drop (k + 1) ts) (drop (k + 1) vs) s else [])) holds

    pub met_more : (next : Seen) (o : Option Seen) → o ≡ Some next → Asks s here (check_target system t v) o → first_wide (one_assigned_met system s t) ≡ None → MetFrom →
        first_wide (assigned_met system (drop (k + 1) ts) (drop (k + 1) vs) s) ≡ first_wide (assigned_met system ts vs s)
    met_more next o some asks fine before =
        let held : is_assigned system s t v ≡ true = kept_true (is_assigned system s t v) (watched s [] next) _ (ap (check_of s []) (sym some) ∙ asks []) in
        sym (rest_met true held fine) ∙ before

    pub met_out : (o : Option Seen) → o ≡ None → Asks s here (check_target system t v) o → first_wide (one_assigned_met system s t) ≡ None → MetFrom → first_wide (assigned_met system ts vs s) ≡ None
    met_out o none asks fine before =
        let held : is_assigned system s t v ≡ false = broken_false (is_assigned system s t v) _ (ap (check_of s []) (sym none) ∙ asks []) in
        sym before ∙ rest_met false held fine

    pub met_told : (A B : Type 0) (e : EvalError) → MetFrom → TellsWide {A = A} (first_wide (one_assigned_met system s t)) (Err e) → TellsWide {A = B} (first_wide (assigned_met system ts vs s)) (Err e)
    met_told A B e before told =
        subst (λ o. TellsWide {A = B} o (Err e)) (sym (ap first_wide split_met) ∙ before) (told_first A B (one_assigned_met system s t) _ e told)

  no_values : (xs : List Target) (w : Watched) → check_targets system xs [] w ≡ Kept w
  unfolding check_targets
  no_values [] w = refl
  no_values (x ∷ xs) w = refl

  no_values_met : (xs : List Target) → assigned_met system xs [] s ≡ []
  unfolding assigned_met
  no_values_met [] = refl
  no_values_met (x ∷ xs) = refl

  pub asked_past : None ≡ slice_get vs k → AskedFrom → Asks s start (check_targets system ts vs) (Some here)
  asked_past none before choices =
      sym (ap (λ ys. check_targets system (drop k ts) ys (watched s choices here)) (drop_past vs k (sym none)) ∙ no_values (drop k ts) (watched s choices here)) ∙ before choices

  pub met_past : None ≡ slice_get vs k → MetFrom → first_wide (assigned_met system ts vs s) ≡ None
  met_past none before = sym before ∙ ap (λ ys. first_wide (assigned_met system (drop k ts) ys s)) (drop_past vs k (sym none)) ∙ ap first_wide (no_values_met (drop k ts))

  pub asked_end : length ts ≤ k → AskedFrom → Asks s start (check_targets system ts vs) (Some here)
  unfolding check_targets
  asked_end past before choices = sym (ap (λ xs. check_targets system xs (drop k vs) (watched s choices here)) (drop_all k ts past)) ∙ before choices

  pub met_end : length ts ≤ k → MetFrom → first_wide (assigned_met system ts vs s) ≡ None
  unfolding assigned_met
  met_end past before = sym before ∙ ap (λ xs. first_wide (assigned_met system xs (drop k vs) s)) (drop_all k ts past)
