-- What each form of statement does and meets, in terms of the code inside it.
use Rattle.std.proofs.Common.{◌≡◌, ℕ, Bool, true, false, List, [], ◌∷◌, ◌++◌, map, length, Option, Some, None, refl, ap, ◌∙◌, sym, append_assoc}
use Rattle.std.specs.Prelude.{if◌then◌else◌}
use Rattle.std.proofs.lemmas.List.{append-nil}
use Rattle.uc_lexer.specs.declared.place.Place.{Place}
use Rattle.uc_syntax.specs.declared.place.Identifier.{Identifier}
use Rattle.uc_syntax.specs.declared.type_expression.TypeExpr.{TypeExpr}
use Rattle.uc_syntax.specs.declared.expression.Expr.{Expr}
use Rattle.uc_syntax.specs.declared.statement.Arm.{Arm}
use Rattle.uc_syntax.specs.declared.statement.RangeBound.{RangeBound}
use Rattle.uc_syntax.specs.declared.statement.Target.{Target}
use Rattle.uc_syntax.specs.declared.statement.Stmt.{Stmt}
use Rattle.uc_syntax.specs.declared.statement.Stmt.TheOpen.{Stmt-F}
use Rattle.uc_syntax.specs.declared.statement.Stmt.TheOpen.Stmt-F.{Local as LocalForm, Skip as SkipForm, Block as BlockForm, Assert as AssertForm, Assume as AssumeForm, Havoc as HavocForm, Assign as AssignForm, If as IfForm, Case as CaseForm, For as ForForm, Call as CallForm, Next as NextForm}
use Rattle.uc_syntax.specs.declared.statement.Stmt.TheViews.{roll-Stmt, Block, If, Case, For}
use Rattle.uc_syntax.specs.declared.statement.Stmt.TheVariants.{Local, Skip, Assert, Assume, Havoc, Assign, Call, Next}
use Rattle.uc_syntax.specs.declared.statement.Stmt.TheFolds.{map-Stmt, fold-roll-Stmt}
use Rattle.uc_values.specs.declared.ty.Ty.{Ty}
use Rattle.uc_values.specs.declared.value.Value.{Value}
use Rattle.uc_meaning.specs.declared.scope.Scope.{Scope}
use Rattle.uc_meaning.specs.declared.overflow.Wide.{Wide}
use Rattle.uc_meaning.specs.Lookup.{System, module_at}
use Rattle.uc_meaning.specs.Expressions.{value, is_true}
use Rattle.uc_meaning.specs.Overflow.{met}
use Rattle.uc_meaning.specs.Code.{Running, Execution, Ending, Goes, Stopped, Unfit, then_run, run_each, run_block, run_form, run_statement, run_by, run_through, run_turns, in_scope, keep_locals, push_local, site_unless, choose, name_now, set_name, write_all, taken, turns, turn_type, call, declare_at}
use Rattle.uc_meaning.specs.OverflowsRuns.{TracedRun, RunMet, traced_form, traced_statement, runs, met_each, met_after, run_met_by, run_met_through, all_met_in, targets_met, conditions_met, turns_met, call_met}
use Rattle.uc_runs.specs.Levels.{run_at, run_met_at, one_at, one_met_at, traced_at, turns_at, turns_met_at}
use Rattle.uc_runs.specs.Laws.{MetOneAfterAnother, MetInConditionals, MetInTurns}
use Rattle.uc_runs.proofs.Layers.{arms_in, else_in, traced_code}

-- ---- the arms of a conditional whose blocks are seen otherwise

module _ {X : Type 0} (f : Stmt → X) (system : System) (s : Scope) (p : Place) where
  if_conditions : (arms : List (Arm Stmt)) (z : Option (List Stmt)) → conditions_met system s (arms_in (map-Stmt Stmt X f (IfForm p arms z))) ≡ conditions_met system s arms
  unfolding conditions_met
  if_conditions [] z = refl
  if_conditions (a ∷ arms) z = ap (λ ws. met system s a.condition ++ (if is_true system s a.condition then [] else ws)) (if_conditions arms z)

  case_conditions : (arms : List (Arm Stmt)) (z : Option (List Stmt)) → conditions_met system s (arms_in (map-Stmt Stmt X f (CaseForm p arms z))) ≡ conditions_met system s arms
  unfolding conditions_met
  case_conditions [] z = refl
  case_conditions (a ∷ arms) z = ap (λ ws. met system s a.condition ++ (if is_true system s a.condition then [] else ws)) (case_conditions arms z)

  chosen_block : (b : Bool) (block others : List Stmt) (xs : List X) → xs ≡ map f others → (if b then map f block else xs) ≡ map f (if b then block else others)
  chosen_block true block others xs is = refl
  chosen_block false block others xs is = is

  if_taken : (arms : List (Arm Stmt)) (z : Option (List Stmt)) →
      taken system s (arms_in (map-Stmt Stmt X f (IfForm p arms z))) (else_in (map-Stmt Stmt X f (IfForm p arms z))) ≡ map f (taken system s arms z)
  unfolding taken
  if_taken [] None = refl
  if_taken [] (Some block) = refl
  if_taken (a ∷ arms) z = chosen_block (is_true system s a.condition) a.body (taken system s arms z) _ (if_taken arms z)

  case_taken : (arms : List (Arm Stmt)) (z : Option (List Stmt)) →
      taken system s (arms_in (map-Stmt Stmt X f (CaseForm p arms z))) (else_in (map-Stmt Stmt X f (CaseForm p arms z))) ≡ map f (taken system s arms z)
  unfolding taken
  case_taken [] None = refl
  case_taken [] (Some block) = refl
  case_taken (a ∷ arms) z = chosen_block (is_true system s a.condition) a.body (taken system s arms z) _ (case_taken arms z)

module _ (n : ℕ) (system : System) where
  runs_are : (code : List Stmt) → runs (map (traced_at n system) code) ≡ map (one_at n system) code
  runs_are [] = refl
  runs_are (s ∷ code) = (λ i. traced_code system (run_through n system) (run_met_through n system) s i ∷ runs_are code i)

  -- ---- statements one after another

  pub run_none : (r : Running) → run_at n system [] r ≡ Goes r
  unfolding run_by run_each
  run_none r = refl

  pub run_next : (s : Stmt) (code : List Stmt) (r : Running) → run_at n system (s ∷ code) r ≡ then_run (one_at n system s r) (run_at n system code)
  unfolding run_by run_each
  run_next s code r = refl

  pub met_none : (r : Running) → run_met_at n system [] r ≡ []
  unfolding run_met_by met_each
  met_none r = refl

  pub met_next : (s : Stmt) (code : List Stmt) (r : Running) → run_met_at n system (s ∷ code) r ≡ one_met_at n system s r ++ met_after (one_at n system s r) (run_met_at n system code)
  unfolding run_met_by met_each
  met_next s code r =
      ap (λ x. one_met_at n system s r ++ met_after (x r) (run_met_at n system code)) (traced_code system (run_through n system) (run_met_through n system) s)

  -- ---- what forms do

  pub skip_does : (p : Place) (r : Running) → one_at n system (Skip p) r ≡ Goes r
  unfolding run_statement roll-Stmt denote.Hole.Carrier.roll
  skip_does p r = ap (λ f. f r) (fold-roll-Stmt Execution (run_form system (run_through n system)) (SkipForm p))

  pub local_does : (p : Place) (names : List Identifier) (type : TypeExpr) (r : Running) → one_at n system (Local p names type) r ≡ declare_at system (module_at system r.scope.path) names type r
  unfolding run_statement roll-Stmt denote.Hole.Carrier.roll
  local_does p names type r = ap (λ f. f r) (fold-roll-Stmt Execution (run_form system (run_through n system)) (LocalForm p names type))

  pub block_does : (p : Place) (block : List Stmt) (r : Running) → one_at n system (Block p block) r ≡ then_run (run_at n system block r) (λ r'. Goes (in_scope r' (keep_locals (length r.scope.locals) r'.scope)))
  unfolding run_statement run_by roll-Stmt denote.Hole.Carrier.roll
  block_does p block r = ap (λ f. f r) (fold-roll-Stmt Execution (run_form system (run_through n system)) (BlockForm p block))

  pub assert_does : (p : Place) (label : Option Identifier) (e : Expr) (r : Running) → one_at n system (Assert p label e) r ≡ Goes (site_unless (is_true system r.scope e) p 0 r)
  unfolding run_statement roll-Stmt denote.Hole.Carrier.roll
  assert_does p label e r = ap (λ f. f r) (fold-roll-Stmt Execution (run_form system (run_through n system)) (AssertForm p label e))

  pub assume_does : (p : Place) (e : Expr) (r : Running) → one_at n system (Assume p e) r ≡ (if is_true system r.scope e then Goes r else Stopped)
  unfolding run_statement roll-Stmt denote.Hole.Carrier.roll
  assume_does p e r = ap (λ f. f r) (fold-roll-Stmt Execution (run_form system (run_through n system)) (AssumeForm p e))

  pub havoc_does : (p : Place) (x : Identifier) (primed : Bool) (r : Running) →
      one_at n system (Havoc p x primed) r ≡ choose (name_now system r.scope x.name).type (λ v r'. Goes (in_scope r' (set_name system r'.scope x.name v))) r
  unfolding run_statement roll-Stmt denote.Hole.Carrier.roll
  havoc_does p x primed r = ap (λ f. f r) (fold-roll-Stmt Execution (run_form system (run_through n system)) (HavocForm p x primed))

  pub assign_does : (p : Place) (targets : List Target) (sources : List Expr) (r : Running) →
      one_at n system (Assign p targets sources) r ≡ Goes (in_scope r (write_all system targets (map (value system r.scope) sources) r.scope))
  unfolding run_statement roll-Stmt denote.Hole.Carrier.roll
  assign_does p targets sources r = ap (λ f. f r) (fold-roll-Stmt Execution (run_form system (run_through n system)) (AssignForm p targets sources))

  -- a block that is taken ends its locals
  pub if_does : (p : Place) (arms : List (Arm Stmt)) (z : Option (List Stmt)) (r : Running) →
      one_at n system (If p arms z) r ≡ then_run (run_at n system (taken system r.scope arms z) r) (λ r'. Goes (in_scope r' (keep_locals (length r.scope.locals) r'.scope)))
  unfolding run_statement run_by roll-Stmt denote.Hole.Carrier.roll
  if_does p arms z r =
      ap (λ f. f r) (fold-roll-Stmt Execution (run_form system (run_through n system)) (IfForm p arms z))
      ∙ ap (λ xs. run_block xs r) (if_taken (one_at n system) system r.scope p arms z)

  pub case_does : (p : Place) (arms : List (Arm Stmt)) (z : Option (List Stmt)) (r : Running) →
      one_at n system (Case p arms z) r ≡ then_run (run_at n system (taken system r.scope arms z) r) (λ r'. Goes (in_scope r' (keep_locals (length r.scope.locals) r'.scope)))
  unfolding run_statement run_by roll-Stmt denote.Hole.Carrier.roll
  case_does p arms z r =
      ap (λ f. f r) (fold-roll-Stmt Execution (run_form system (run_through n system)) (CaseForm p arms z))
      ∙ ap (λ xs. run_block xs r) (case_taken (one_at n system) system r.scope p arms z)

  pub for_does : (p : Place) (x : Identifier) (type : Option TypeExpr) (from to : RangeBound) (block : List Stmt) (r : Running) →
      one_at n system (For p x type from to block) r ≡ turns_at n system x.name (turn_type from) block (turns from to) r
  unfolding run_statement roll-Stmt denote.Hole.Carrier.roll
  for_does p x type from to block r = ap (λ f. f r) (fold-roll-Stmt Execution (run_form system (run_through n system)) (ForForm p x type from to block))

  pub call_does : (p : Place) (targets : List Target) (f : Identifier) (arguments : List Expr) (r : Running) →
      one_at n system (Call p targets f arguments) r ≡ call system (run_through n system) p targets f.name arguments r
  unfolding run_statement roll-Stmt denote.Hole.Carrier.roll
  call_does p targets f arguments r = ap (λ g. g r) (fold-roll-Stmt Execution (run_form system (run_through n system)) (CallForm p targets f arguments))

  pub next_does : (p : Place) (i : Identifier) (r : Running) → one_at n system (Next p i) r ≡ Stopped
  unfolding run_statement roll-Stmt denote.Hole.Carrier.roll
  next_does p i r = ap (λ f. f r) (fold-roll-Stmt Execution (run_form system (run_through n system)) (NextForm p i))

  -- ---- what forms meet

  abbrev form : Stmt-F TracedRun → TracedRun
  form = traced_form system (run_through n system) (run_met_through n system)

  pub skip_meets : (p : Place) (r : Running) → one_met_at n system (Skip p) r ≡ []
  unfolding traced_statement roll-Stmt denote.Hole.Carrier.roll
  skip_meets p r = ap (λ t. t.met r) (fold-roll-Stmt TracedRun form (SkipForm p))

  pub local_meets : (p : Place) (names : List Identifier) (type : TypeExpr) (r : Running) → one_met_at n system (Local p names type) r ≡ []
  unfolding traced_statement roll-Stmt denote.Hole.Carrier.roll
  local_meets p names type r = ap (λ t. t.met r) (fold-roll-Stmt TracedRun form (LocalForm p names type))

  pub block_meets : (p : Place) (block : List Stmt) (r : Running) → one_met_at n system (Block p block) r ≡ run_met_at n system block r
  unfolding traced_statement run_met_by roll-Stmt denote.Hole.Carrier.roll
  block_meets p block r = ap (λ t. t.met r) (fold-roll-Stmt TracedRun form (BlockForm p block))

  pub assert_meets : (p : Place) (label : Option Identifier) (e : Expr) (r : Running) → one_met_at n system (Assert p label e) r ≡ met system r.scope e
  unfolding traced_statement roll-Stmt denote.Hole.Carrier.roll
  assert_meets p label e r = ap (λ t. t.met r) (fold-roll-Stmt TracedRun form (AssertForm p label e))

  pub assume_meets : (p : Place) (e : Expr) (r : Running) → one_met_at n system (Assume p e) r ≡ met system r.scope e
  unfolding traced_statement roll-Stmt denote.Hole.Carrier.roll
  assume_meets p e r = ap (λ t. t.met r) (fold-roll-Stmt TracedRun form (AssumeForm p e))

  pub havoc_meets : (p : Place) (x : Identifier) (primed : Bool) (r : Running) → one_met_at n system (Havoc p x primed) r ≡ []
  unfolding traced_statement roll-Stmt denote.Hole.Carrier.roll
  havoc_meets p x primed r = ap (λ t. t.met r) (fold-roll-Stmt TracedRun form (HavocForm p x primed))

  pub assign_meets : (p : Place) (targets : List Target) (sources : List Expr) (r : Running) →
      one_met_at n system (Assign p targets sources) r ≡ all_met_in system r.scope sources ++ targets_met system targets (map (value system r.scope) sources) r.scope
  unfolding traced_statement roll-Stmt denote.Hole.Carrier.roll
  assign_meets p targets sources r = ap (λ t. t.met r) (fold-roll-Stmt TracedRun form (AssignForm p targets sources))

  pub if_meets : (p : Place) (arms : List (Arm Stmt)) (z : Option (List Stmt)) (r : Running) → one_met_at n system (If p arms z) r ≡ conditions_met system r.scope arms ++ run_met_at n system (taken system r.scope arms z) r
  unfolding traced_statement run_met_by roll-Stmt denote.Hole.Carrier.roll
  if_meets p arms z r =
      ap (λ t. t.met r) (fold-roll-Stmt TracedRun form (IfForm p arms z))
      ∙ (λ i. if_conditions (traced_at n system) system r.scope p arms z i ++ met_each (if_taken (traced_at n system) system r.scope p arms z i) r)

  pub case_meets : (p : Place) (arms : List (Arm Stmt)) (z : Option (List Stmt)) (r : Running) → one_met_at n system (Case p arms z) r ≡ conditions_met system r.scope arms ++ run_met_at n system (taken system r.scope arms z) r
  unfolding traced_statement run_met_by roll-Stmt denote.Hole.Carrier.roll
  case_meets p arms z r =
      ap (λ t. t.met r) (fold-roll-Stmt TracedRun form (CaseForm p arms z))
      ∙ (λ i. case_conditions (traced_at n system) system r.scope p arms z i ++ met_each (case_taken (traced_at n system) system r.scope p arms z i) r)

  pub for_meets : (p : Place) (x : Identifier) (type : Option TypeExpr) (from to : RangeBound) (block : List Stmt) (r : Running) →
      one_met_at n system (For p x type from to block) r ≡ turns_met_at n system x.name (turn_type from) block (turns from to) r
  unfolding traced_statement roll-Stmt denote.Hole.Carrier.roll
  for_meets p x type from to block r = ap (λ t. t.met r) (fold-roll-Stmt TracedRun form (ForForm p x type from to block))

  pub call_meets : (p : Place) (targets : List Target) (f : Identifier) (arguments : List Expr) (r : Running) →
      one_met_at n system (Call p targets f arguments) r ≡ call_met system (run_through n system) (run_met_through n system) p targets f.name arguments r
  unfolding traced_statement roll-Stmt denote.Hole.Carrier.roll
  call_meets p targets f arguments r = ap (λ t. t.met r) (fold-roll-Stmt TracedRun form (CallForm p targets f arguments))

  pub next_meets : (p : Place) (i : Identifier) (r : Running) → one_met_at n system (Next p i) r ≡ []
  unfolding traced_statement roll-Stmt denote.Hole.Carrier.roll
  next_meets p i r = ap (λ t. t.met r) (fold-roll-Stmt TracedRun form (NextForm p i))

  -- ---- the turns of a loop

  pub turn_does : (x : ℕ) (t : Ty) (block : List Stmt) (v : Value) (vs : List Value) (r : Running) →
      turns_at n system x t block (v ∷ vs) r ≡ then_run (run_at n system block (push_local x t v r)) (λ r'. turns_at n system x t block vs (in_scope r' (keep_locals (length r.scope.locals) r'.scope)))
  unfolding run_turns run_by
  turn_does x t block v vs r = refl

  pub turn_meets : (x : ℕ) (t : Ty) (block : List Stmt) (v : Value) (vs : List Value) (r : Running) →
      turns_met_at n system x t block (v ∷ vs) r
      ≡ run_met_at n system block (push_local x t v r)
      ++ met_after (run_at n system block (push_local x t v r)) (λ r'. turns_met_at n system x t block vs (in_scope r' (keep_locals (length r.scope.locals) r'.scope)))
  unfolding turns_met run_met_by run_by
  turn_meets x t block v vs r =
      ap (λ xs. run_met_at n system block (push_local x t v r) ++ met_after (run_each xs (push_local x t v r)) (λ r'. turns_met_at n system x t block vs (in_scope r' (keep_locals (length r.scope.locals) r'.scope)))) (runs_are block)

-- ---- the laws

then_met : (ws : List Wide) (e : Ending) (f : RunMet) (g : Execution) (h : RunMet) (rest : RunMet) → ((r : Running) → rest r ≡ f r ++ met_after (g r) h) →
    ws ++ met_after e rest ≡ (ws ++ met_after e f) ++ met_after (then_run e g) h
then_met ws (Goes r) f g h rest is = ap (λ vs. ws ++ vs) (is r) ∙ sym (append_assoc ws (f r) (met_after (g r) h))
then_met ws Stopped f g h rest is = sym (append-nil (ws ++ []))
then_met ws (Unfit left) f g h rest is = sym (append-nil (ws ++ []))

pub met_in_order : MetOneAfterAnother
met_in_order n system [] back r = λ i. sym (met_none n system r) i ++ met_after (sym (run_none n system r) i) (run_met_at n system back)
met_in_order n system (s ∷ front) back r =
    met_next n system s (front ++ back) r
    ∙ then_met (one_met_at n system s r) (one_at n system s r) (run_met_at n system front) (run_at n system front) (run_met_at n system back) (run_met_at n system (front ++ back)) (λ r'. met_in_order n system front back r')
    ∙ (λ i. sym (met_next n system s front r) i ++ met_after (sym (run_next n system s front r) i) (run_met_at n system back))

pub met_in_conditionals : MetInConditionals
met_in_conditionals n system p arms z = (if_meets n system p arms z, case_meets n system p arms z)

pub met_in_turns : MetInTurns
met_in_turns n system x t block v vs r = turn_meets n system x t block v vs r
