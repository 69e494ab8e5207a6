-- A statement does and meets what its form does and meets.
use Rattle.std.proofs.Common.{◌≡◌, ℕ, Bool, List, [], ◌∷◌, ◌++◌, map, length, Option, refl, ap, ◌∙◌, sym}
use Rattle.std.specs.Prelude.{if◌then◌else◌, Result, Ok, Err, IfOk}
use Rattle.uc_lexer.specs.declared.place.Place.{Place}
use Rattle.uc_syntax.specs.declared.place.Identifier.{Identifier}
use Rattle.uc_syntax.specs.declared.type_expression.TypeExpr.{TypeExpr}
use Rattle.uc_syntax.specs.declared.expression.Expr.{Expr}
use Rattle.uc_syntax.specs.declared.statement.Arm.{Arm}
use Rattle.uc_syntax.specs.declared.statement.RangeBound.{RangeBound}
use Rattle.uc_syntax.specs.declared.statement.Target.{Target}
use Rattle.uc_syntax.specs.declared.statement.Stmt.{Stmt}
use Rattle.uc_syntax.specs.declared.statement.Stmt.TheViews.{Block, If, Case, For}
use Rattle.uc_syntax.specs.declared.statement.Stmt.TheVariants.{Local, Skip, Assert, Assume, Havoc, Assign, Call, Next}
use Rattle.uc_values.specs.declared.ty.Ty.{Ty}
use Rattle.uc_values.specs.declared.value.Value.{Value}
use Rattle.uc_meaning.specs.declared.overflow.Wide.{Wide}
use Rattle.uc_meaning.specs.Lookup.{System, module_at}
use Rattle.uc_meaning.specs.Expressions.{value, is_true}
use Rattle.uc_meaning.specs.Overflow.{met}
use Rattle.uc_meaning.specs.Code.{Running, Execution, Ending, Goes, Stopped, Unfit, then_run, run_turns, run_through, in_scope, keep_locals, push_local, site_unless, choose, name_now, set_name, write_all, taken, turns, turn_type, call, declare_at}
use Rattle.uc_meaning.specs.OverflowsRuns.{RunMet, met_after, turns_met, run_met_through, all_met_in, targets_met, conditions_met, call_met}
use Rattle.uc_runs.specs.Levels.{run_at, run_met_at, one_at, one_met_at, turns_at, turns_met_at}
use Rattle.uc_runs.proofs.Forms.{skip_does, local_does, block_does, assert_does, assume_does, havoc_does, assign_does, if_does, case_does, for_does, call_does, next_does, skip_meets, local_meets, block_meets, assert_meets, assume_meets, havoc_meets, assign_meets, if_meets, case_meets, for_meets, call_meets, next_meets, turn_does, turn_meets}
use Rattle.uc_runs.specs.declared.run.Run.{Run}
use Rattle.uc_runs.specs.declared.run.Ending.{Ending as CodeEnding}
use Rattle.uc_runs.specs.Runs.{running, ending_of, Ends}
use Rattle.uc_runs.proofs.Places.{in_turn}
use Rattle.uc_runs.specs.Turns.{block_at, turn_at}

module _ (n : ℕ) (system : System) (s : Stmt) (r : Running) where
  does : (t : Stmt) (e : Ending) → s ≡ t → one_at n system t r ≡ e → e ≡ one_at n system s r
  does t e is form = sym (ap (λ u. one_at n system u r) is ∙ form)

  meets : (t : Stmt) (ws : List Wide) → s ≡ t → one_met_at n system t r ≡ ws → ws ≡ one_met_at n system s r
  meets t ws is form = sym (ap (λ u. one_met_at n system u r) is ∙ form)

  module _ (p : Place) where
    module _ (names : List Identifier) (type : TypeExpr) (is : s ≡ Local p names type) where
      pub declared_is : (seen : List Identifier) → seen ≡ names → declare_at system (module_at system r.scope.path) seen type r ≡ one_at n system s r
      declared_is seen same = ap (λ xs. declare_at system (module_at system r.scope.path) xs type r) same ∙ does (Local p names type) _ is (local_does n system p names type r)

      pub declared_met : [] ≡ one_met_at n system s r
      declared_met = meets (Local p names type) _ is (local_meets n system p names type r)

    module _ (is : s ≡ Skip p) where
      pub skip_is : Goes r ≡ one_at n system s r
      skip_is = does (Skip p) _ is (skip_does n system p r)

      pub skip_met : [] ≡ one_met_at n system s r
      skip_met = meets (Skip p) _ is (skip_meets n system p r)

    module _ (block : List Stmt) (is : s ≡ Block p block) (seen : List Stmt) (same : seen ≡ block) where
      pub block_is : block_at n system seen r ≡ one_at n system s r
      block_is = ap (λ b. block_at n system b r) same ∙ does (Block p block) _ is (block_does n system p block r)

      pub block_met : run_met_at n system seen r ≡ one_met_at n system s r
      block_met = ap (λ b. run_met_at n system b r) same ∙ meets (Block p block) _ is (block_meets n system p block r)

    module _ (label : Option Identifier) (e : Expr) (is : s ≡ Assert p label e) where
      pub assert_is : Goes (site_unless (is_true system r.scope e) p 0 r) ≡ one_at n system s r
      assert_is = does (Assert p label e) _ is (assert_does n system p label e r)

      pub assert_met : met system r.scope e ≡ one_met_at n system s r
      assert_met = meets (Assert p label e) _ is (assert_meets n system p label e r)

    module _ (e : Expr) (is : s ≡ Assume p e) where
      pub assume_is : (if is_true system r.scope e then Goes r else Stopped) ≡ one_at n system s r
      assume_is = does (Assume p e) _ is (assume_does n system p e r)

      pub assume_met : met system r.scope e ≡ one_met_at n system s r
      assume_met = meets (Assume p e) _ is (assume_meets n system p e r)

    module _ (x : Identifier) (primed : Bool) (is : s ≡ Havoc p x primed) where
      pub havoc_is : choose (name_now system r.scope x.name).type (λ v r'. Goes (in_scope r' (set_name system r'.scope x.name v))) r ≡ one_at n system s r
      havoc_is = does (Havoc p x primed) _ is (havoc_does n system p x primed r)

      pub havoc_met : [] ≡ one_met_at n system s r
      havoc_met = meets (Havoc p x primed) _ is (havoc_meets n system p x primed r)

    module _ (targets : List Target) (sources : List Expr) (is : s ≡ Assign p targets sources) (ts : List Target) (es : List Expr) (first : ts ≡ targets) (second : es ≡ sources) where
      pub assign_is : Goes (in_scope r (write_all system ts (map (value system r.scope) es) r.scope)) ≡ one_at n system s r
      assign_is = (λ i. Goes (in_scope r (write_all system (first i) (map (value system r.scope) (second i)) r.scope))) ∙ does (Assign p targets sources) _ is (assign_does n system p targets sources r)

      pub assign_met : all_met_in system r.scope es ++ targets_met system ts (map (value system r.scope) es) r.scope ≡ one_met_at n system s r
      assign_met = (λ i. all_met_in system r.scope (second i) ++ targets_met system (first i) (map (value system r.scope) (second i)) r.scope) ∙ meets (Assign p targets sources) _ is (assign_meets n system p targets sources r)

    module _ (arms : List (Arm Stmt)) (z : Option (List Stmt)) (seen : List (Arm Stmt)) (same : seen ≡ arms) where
      pub if_is : s ≡ If p arms z → block_at n system (taken system r.scope seen z) r ≡ one_at n system s r
      if_is is = ap (λ xs. block_at n system (taken system r.scope xs z) r) same ∙ does (If p arms z) _ is (if_does n system p arms z r)

      pub if_met : s ≡ If p arms z → conditions_met system r.scope seen ++ run_met_at n system (taken system r.scope seen z) r ≡ one_met_at n system s r
      if_met is = ap (λ xs. conditions_met system r.scope xs ++ run_met_at n system (taken system r.scope xs z) r) same ∙ meets (If p arms z) _ is (if_meets n system p arms z r)

      pub case_is : s ≡ Case p arms z → block_at n system (taken system r.scope seen z) r ≡ one_at n system s r
      case_is is = ap (λ xs. block_at n system (taken system r.scope xs z) r) same ∙ does (Case p arms z) _ is (case_does n system p arms z r)

      pub case_met : s ≡ Case p arms z → conditions_met system r.scope seen ++ run_met_at n system (taken system r.scope seen z) r ≡ one_met_at n system s r
      case_met is = ap (λ xs. conditions_met system r.scope xs ++ run_met_at n system (taken system r.scope xs z) r) same ∙ meets (Case p arms z) _ is (case_meets n system p arms z r)

    module _ (x : Identifier) (type : Option TypeExpr) (from to : RangeBound) (block : List Stmt) (is : s ≡ For p x type from to block) (t : Ty) (vs : List Value) (typed : t ≡ turn_type from) (taking : vs ≡ turns from to) (seen : List Stmt) (same : seen ≡ block) where
      pub for_is : turns_at n system x.name t seen vs r ≡ one_at n system s r
      for_is = (λ i. turns_at n system x.name (typed i) (same i) (taking i) r) ∙ does (For p x type from to block) _ is (for_does n system p x type from to block r)

      pub for_met : turns_met_at n system x.name t seen vs r ≡ one_met_at n system s r
      for_met = (λ i. turns_met_at n system x.name (typed i) (same i) (taking i) r) ∙ meets (For p x type from to block) _ is (for_meets n system p x type from to block r)

    module _ (targets : List Target) (f : Identifier) (arguments : List Expr) (is : s ≡ Call p targets f arguments) (ts : List Target) (es : List Expr) (first : ts ≡ targets) (second : es ≡ arguments) where
      pub call_is : call system (run_through n system) p ts f.name es r ≡ one_at n system s r
      call_is = (λ i. call system (run_through n system) p (first i) f.name (second i) r) ∙ does (Call p targets f arguments) _ is (call_does n system p targets f arguments r)

      pub call_met_is : call_met system (run_through n system) (run_met_through n system) p ts f.name es r ≡ one_met_at n system s r
      call_met_is = (λ i. call_met system (run_through n system) (run_met_through n system) p (first i) f.name (second i) r) ∙ meets (Call p targets f arguments) _ is (call_meets n system p targets f arguments r)

    module _ (i : Identifier) (is : s ≡ Next p i) where
      pub next_is : Stopped ≡ one_at n system s r
      next_is = does (Next p i) _ is (next_does n system p i r)

      pub next_met : [] ≡ one_met_at n system s r
      next_met = meets (Next p i) _ is (next_meets n system p i r)

-- ---- the turns of a loop, each with the end of its locals

met_then : (e : Ending) (f : Running → Running) (g : RunMet) → met_after e (λ r. g (f r)) ≡ met_after (then_run e (λ r. Goes (f r))) g
met_then (Goes r) f g = refl
met_then Stopped f g = refl
met_then (Unfit left) f g = refl

module _ (n : ℕ) (system : System) (x : ℕ) (t : Ty) (block : List Stmt) where
  pub turns_none : (r : Running) → turns_at n system x t block [] r ≡ Goes r
  unfolding run_turns
  turns_none r = refl

  pub turns_next : (v : Value) (vs : List Value) (r : Running) → turns_at n system x t block (v ∷ vs) r ≡ then_run (turn_at n system x t block v r) (turns_at n system x t block vs)
  turns_next v vs r =
      turn_does n system x t block v vs r
      ∙ sym (in_turn (run_at n system block (push_local x t v r)) (λ r'. Goes (in_scope r' (keep_locals (length r.scope.locals) r'.scope))) (turns_at n system x t block vs))

  abbrev pub turn_met : Value → RunMet
  turn_met v r = run_met_at n system block (push_local x t v r)

  pub turns_met_none : (r : Running) → turns_met_at n system x t block [] r ≡ []
  unfolding turns_met
  turns_met_none r = refl

  pub turns_met_next : (v : Value) (vs : List Value) (r : Running) →
      turns_met_at n system x t block (v ∷ vs) r ≡ turn_met v r ++ met_after (turn_at n system x t block v r) (turns_met_at n system x t block vs)
  turns_met_next v vs r =
      turn_meets n system x t block v vs r
      ∙ ap (λ ws. turn_met v r ++ ws)
      (met_then (run_at n system block (push_local x t v r)) (λ r'. in_scope r' (keep_locals (length r.scope.locals) r'.scope)) (turns_met_at n system x t block vs))

-- an ending of code that takes no choice, as one of the statement
pub ends_so : {E : Type 0} (n : ℕ) (system : System) (s : Stmt) (start : Run) (choices : List Value) (code : Execution) → code (running choices start) ≡ one_at n system s (running choices start) →
    (result : Result CodeEnding E) → IfOk result (λ e. Ends start code e) → IfOk result (λ e. ending_of choices e ≡ one_at n system s (running choices start))
ends_so n system s start choices code is (Ok e) ends = ends choices ∙ is
ends_so n system s start choices code is (Err e) ends = tt

-- an answer for all choices is one for some
pub at_choices : {E : Type 0} (f : List Value → Ending) (choices : List Value) (result : Result CodeEnding E) → IfOk result (λ e. (cs : List Value) → ending_of cs e ≡ f cs) → IfOk result (λ e. ending_of choices e ≡ f choices)
at_choices f choices (Ok e) gives = gives choices
at_choices f choices (Err e) gives = tt
