-- A call, by its entry, its body and its return.
use Rattle.std.proofs.Common.{◌≡◌, ℕ, ◌&&◌, true, List, [], ◌∷◌, ◌++◌, map, Option, Some, None, refl, ap, ◌∙◌, sym, subst, append_assoc}
use Rattle.std.specs.Prelude.{Result, Ok, IfOk}
use Rattle.std.specs.List.{list_all}
use Rattle.uc_lexer.specs.declared.place.Place.{Place}
use Rattle.uc_syntax.specs.declared.expression.Expr.{Expr}
use Rattle.uc_syntax.specs.declared.type_expression.Parameter.{Parameter}
use Rattle.uc_syntax.specs.declared.type_expression.TypeExpr.{TypeExpr}
use Rattle.uc_syntax.specs.declared.statement.Target.{Target}
use Rattle.uc_syntax.specs.declared.statement.Stmt.{Stmt}
use Rattle.uc_syntax.specs.declared.declaration.Procedure.{Procedure}
use Rattle.uc_syntax.specs.declared.declaration.Module.{Module}
use Rattle.uc_values.specs.declared.value.Value.{Value}
use Rattle.uc_meaning.specs.declared.scope.Scope.{Scope}
use Rattle.uc_meaning.specs.declared.scope.Local.{Local}
use Rattle.uc_meaning.specs.declared.overflow.Wide.{Wide}
use Rattle.uc_meaning.specs.Lookup.{System, module_at, procedure_of}
use Rattle.uc_meaning.specs.Code.{Running, Execution, Ending as HowItEnds, Goes as GoesOn, Stopped as IsStopped, then_run, in_scope, declare, judge_requires, requires_of, names_with_types, results, write_all, run_through, call, call_at, call_in}
use Rattle.uc_meaning.specs.OverflowsRuns.{RunMet, met_after, run_met_through, all_met_in, targets_met, call_met, call_met_at, call_met_in}
use Rattle.uc_runs.specs.Writes.{has_local}
use Rattle.uc_runs.specs.declared.run.Ending.{Ending}
use Rattle.uc_runs.specs.declared.run.Ending.TheVariants.{Goes, Stopped, BadChoice}
use Rattle.uc_runs.specs.Runs.{ending_of, entry_of, with_locals, LeavesLocals}
use Rattle.uc_runs.proofs.Places.{in_turn, met_in_turn, same_behind, same_met_behind}
use Rattle.uc_runs.proofs.Frames.{EndsIn, AllLocal, EndsLocal, ends_then, ends_local_then, body_stays, begun_in, gone_in, declares_locals, has_name}

module _ (n : ℕ) (system : System) (place : Place) (targets : List Target) (arguments : List Expr) (m : Module) (p : Procedure) (r : Running) where
  -- where the body begins, and where it ends
  abbrev pub begun : HowItEnds
  begun = declare system m (names_with_types p.results) (judge_requires system place 1 (requires_of p) (in_scope r (entry_of system m p arguments r.scope)))

  abbrev pub ended : HowItEnds
  ended = then_run begun (run_through n system p.body)

  -- the caller's scope again, as the end of the body has it with the caller's locals
  abbrev pub handed : List Local → Execution
  handed locals q = GoesOn (in_scope q (write_all system targets (results system q.scope p.results) (with_locals q.scope locals)))

  abbrev pub handed_met : List Local → RunMet
  handed_met locals q = targets_met system targets (results system q.scope p.results) (with_locals q.scope locals)

  ends_inside : EndsIn (entry_of system m p arguments r.scope) ended
  ends_inside =
      ends_then (entry_of system m p arguments r.scope) begun (run_through n system p.body)
      (begun_in system m (names_with_types p.results) place (requires_of p) (in_scope r (entry_of system m p arguments r.scope)))
      (body_stays n system p.body)

  scope_again : (q : Running) → ended ≡ GoesOn q → with_locals q.scope r.scope.locals ≡ record r.scope { before = q.scope.before }
  scope_again q is = ap (λ s. with_locals s r.scope.locals) (gone_in (entry_of system m p arguments r.scope) ended q is ends_inside).frame

  pub called_value : (caller : List Local) → caller ≡ r.scope.locals → then_run ended (handed caller) ≡ call_in system (run_through n system) place targets arguments m (Some p) r
  called_value caller is =
      ap (λ ls. then_run ended (handed ls)) is
      ∙ same_behind ended (handed r.scope.locals) (λ q. GoesOn (in_scope q (write_all system targets (results system q.scope p.results) (record r.scope { before = q.scope.before }))))
      (λ q gone. ap (λ s. GoesOn (in_scope q (write_all system targets (results system q.scope p.results) s))) (scope_again q gone))
      ∙ in_turn begun (run_through n system p.body) (λ q. GoesOn (in_scope q (write_all system targets (results system q.scope p.results) (record r.scope { before = q.scope.before }))))

  -- what is met before the body, and in it and behind it
  abbrev pub entry_met : List Wide
  entry_met = all_met_in system r.scope arguments ++ all_met_in system (entry_of system m p arguments r.scope) (requires_of p)

  abbrev pub body_met : List Wide
  body_met = met_after begun (run_met_through n system p.body)

  pub called_met : (caller : List Local) → caller ≡ r.scope.locals →
      entry_met ++ (body_met ++ met_after ended (handed_met caller)) ≡ call_met_in system (run_through n system) (run_met_through n system) place targets arguments m (Some p) r
  called_met caller is =
      ap (λ ls. entry_met ++ (body_met ++ met_after ended (handed_met ls))) is
      ∙ ap (λ ws. entry_met ++ (body_met ++ ws))
      (same_met_behind ended (handed_met r.scope.locals) (λ q. targets_met system targets (results system q.scope p.results) (record r.scope { before = q.scope.before }))
      (λ q gone. ap (targets_met system targets (results system q.scope p.results)) (scope_again q gone)))
      ∙ ap (λ ws. entry_met ++ ws)
      (sym (met_in_turn begun (run_through n system p.body) (run_met_through n system p.body) (λ q. targets_met system targets (results system q.scope p.results) (record r.scope { before = q.scope.before }))))
      ∙ append_assoc (all_met_in system r.scope arguments) (all_met_in system (entry_of system m p arguments r.scope) (requires_of p)) _

  begun_locals : EndsLocal (map (λ d. d.0) (names_with_types p.results)) begun
  begun_locals = declares_locals system m (names_with_types p.results) (judge_requires system place 1 (requires_of p) (in_scope r (entry_of system m p arguments r.scope)))

  results_local : (ps : List (Parameter TypeExpr)) (s : Scope) → AllLocal (map (λ d. d.0) (names_with_types ps)) s → list_all (λ q. has_local s.locals q.identifier.name) ps ≡ true
  unfolding AllLocal
  results_local [] s there = refl
  results_local (q ∷ ps) s there = (λ i. (sym (has_name q.identifier.name s.locals) ∙ there.0) i && results_local ps s there.1 i)

  left_local : (e : HowItEnds) → EndsLocal (map (λ d. d.0) (names_with_types p.results)) e → (c : Ending) (choices : List Value) → ending_of choices c ≡ e → LeavesLocals p.results c
  left_local e there (Goes run) choices is = results_local p.results run.scope (subst (EndsLocal (map (λ d. d.0) (names_with_types p.results))) (sym is) there)
  left_local e there Stopped choices is = tt
  left_local e there (BadChoice n) choices is = tt

  -- where the body has ended, the results are locals
  pub leaves_locals : (c : Ending) (choices : List Value) → ending_of choices c ≡ ended → LeavesLocals p.results c
  leaves_locals c choices is = left_local ended (ends_local_then (map (λ d. d.0) (names_with_types p.results)) begun (run_through n system p.body) begun_locals (body_stays n system p.body)) c choices is

  -- what a run of the body answers and tells, as the end of the body and what is met in it
  module _ (b : Ending) (choices : List Value) (enters : ending_of choices b ≡ begun) (seen : List Stmt) (same : seen ≡ p.body) where
    pub body_value : {E : Type 0} (answer : Result Ending E) (e : Ending) → answer ≡ Ok e → IfOk answer (λ f. ending_of choices f ≡ then_run (ending_of choices b) (run_through n system seen)) → ending_of choices e ≡ ended
    body_value answer e is gives =
        let there : ending_of choices e ≡ then_run (ending_of choices b) (run_through n system seen) = subst (λ a. IfOk a (λ f. ending_of choices f ≡ then_run (ending_of choices b) (run_through n system seen))) is gives in
        there ∙ (λ i. then_run (enters i) (run_through n system (same i)))

    pub body_meets : met_after (ending_of choices b) (run_met_through n system seen) ≡ body_met
    body_meets = λ i. met_after (enters i) (run_met_through n system (same i))

-- a call, by the procedure that its name is
module _ (n : ℕ) (system : System) (place : Place) (targets : List Target) (f : ℕ) (arguments : List Expr) (r : Running) where
  pub no_module : None ≡ module_at system r.scope.path → IsStopped ≡ call system (run_through n system) place targets f arguments r
  unfolding call
  no_module none = ap (λ o. call_at system (run_through n system) place targets f arguments o r) none

  pub no_module_met : None ≡ module_at system r.scope.path → [] ≡ call_met system (run_through n system) (run_met_through n system) place targets f arguments r
  unfolding call_met
  no_module_met none = ap (λ o. call_met_at system (run_through n system) (run_met_through n system) place targets f arguments o r) none

  module _ (m : Module) (found : Some m ≡ module_at system r.scope.path) where
    pub called_is : (o : Option Procedure) → o ≡ procedure_of m f → call_in system (run_through n system) place targets arguments m o r ≡ call system (run_through n system) place targets f arguments r
    unfolding call
    called_is o is = ap (λ q. call_in system (run_through n system) place targets arguments m q r) is ∙ ap (λ q. call_at system (run_through n system) place targets f arguments q r) found

    pub called_met_is : (o : Option Procedure) → o ≡ procedure_of m f →
        call_met_in system (run_through n system) (run_met_through n system) place targets arguments m o r ≡ call_met system (run_through n system) (run_met_through n system) place targets f arguments r
    unfolding call_met
    called_met_is o is =
        ap (λ q. call_met_in system (run_through n system) (run_met_through n system) place targets arguments m q r) is
        ∙ ap (λ q. call_met_at system (run_through n system) (run_met_through n system) place targets f arguments q r) found
