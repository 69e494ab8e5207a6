-- Sites that are listed, each `requires` one after another, and the arm of a conditional that is taken.
use Rattle.std.proofs.Common.{◌≡◌, ℕ, ◌+◌, ◌<◌, ◌≤◌, Bool, true, false, List, [], ◌∷◌, ◌++◌, length, drop, get_or, Option, None, refl, ap, ◌∙◌, sym, subst}
use Rattle.std.specs.Prelude.{Err, if◌then◌else◌}
use Rattle.std.specs.List.{filter_map, cons_option}
use Rattle.std.proofs.lemmas.List.{drop_all}
use Rattle.uc_lexer.specs.declared.place.Place.{Place}
use Rattle.uc_syntax.specs.declared.expression.Expr.{Expr}
use Rattle.uc_syntax.specs.declared.statement.Arm.{Arm}
use Rattle.uc_syntax.specs.declared.statement.Stmt.{Stmt}
use Rattle.uc_syntax.specs.declared.declaration.Clause.{Clause}
use Rattle.uc_syntax.specs.declared.declaration.Clause.TheVariants.{Requires}
use Rattle.uc_values.specs.declared.value.Value.{Value}
use Rattle.uc_meaning.specs.declared.scope.Scope.{Scope}
use Rattle.uc_meaning.specs.declared.scope.Site.{Site}
use Rattle.uc_meaning.specs.declared.overflow.Wide.{Wide}
use Rattle.uc_meaning.specs.Lookup.{System}
use Rattle.uc_meaning.specs.Expressions.{is_true}
use Rattle.uc_meaning.specs.Overflow.{met}
use Rattle.uc_meaning.specs.Code.{Running, Goes as GoesOn, Stopped as IsStopped, site_unless, list_site, requires_in, judge_requires, taken, else_block}
use Rattle.uc_meaning.proofs.Lists.{drop_turn}
use Rattle.uc_meaning.specs.OverflowsRuns.{all_met_in, conditions_met}
use Rattle.uc_operators.specs.declared.error.EvalError.{EvalError}
use Rattle.uc_operators.specs.Overflows.{first_wide, TellsWide}
use Rattle.uc_evaluator.proofs.Told.{none_first, told_first}
use Rattle.uc_runs.specs.declared.run.Run.{Run}
use Rattle.uc_runs.specs.declared.run.Ending.TheVariants.{Goes, Stopped}
use Rattle.uc_runs.specs.Runs.{running, Comes, Ends}

-- a site is listed, or not
pub lists_none : (run : Run) (holds : Bool) (place : Place) (n : ℕ) → holds ≡ true → Comes run (site_unless holds place n) run
lists_none run holds place n is choices = ap (λ b. site_unless b place n (running choices run)) (sym is)

pub lists_one : (run : Run) (holds : Bool) (place : Place) (n : ℕ) (sites : List Site) → holds ≡ false → sites ≡ list_site run.violated (record { path = run.scope.path; place = place; requires_ = n }) →
    Comes run (site_unless holds place n) (record { scope = run.scope; violated = sites; used = run.used })
lists_one run holds place n sites is listed choices = ap (λ ss. record (running choices run) { sites = ss }) listed ∙ ap (λ b. site_unless b place n (running choices run)) (sym is)

pub comes_with : (run r : Run) (b c : Bool) (place : Place) (n : ℕ) → b ≡ c → Comes run (site_unless b place n) r → Comes run (site_unless c place n) r
comes_with run r b c place n same comes choices = comes choices ∙ ap (λ d. site_unless d place n (running choices run)) same

-- an assumed formula
module _ (system : System) (run : Run) (e : Expr) (b : Bool) (holds : b ≡ is_true system run.scope e) where
  pub assumes_true : b ≡ true → Ends run (λ r. if is_true system r.scope e then GoesOn r else IsStopped) (Goes run)
  assumes_true is choices = ap (λ c. if c then GoesOn (running choices run) else IsStopped) (sym is ∙ holds)

  pub assumes_false : b ≡ false → Ends run (λ r. if is_true system r.scope e then GoesOn r else IsStopped) Stopped
  assumes_false is choices = ap (λ c. if c then GoesOn (running choices run) else IsStopped) (sym is ∙ holds)

-- a site does not change the scope
site_scope : (b : Bool) (place : Place) (n : ℕ) (r : Running) → (site_unless b place n r).scope ≡ r.scope
site_scope true place n r = refl
site_scope false place n r = refl

-- each `requires` that is left
module _ (system : System) (place : Place) (clauses : List Clause) (k : ℕ) where
  -- from here on the clauses that are left are judged as all of them are from the start
  pub record JudgedSo (n : ℕ) (start here : Run) : Type 0 where
    pub value : (choices : List Value) → judge_requires system place n (filter_map requires_in (drop k clauses)) (running choices here) ≡ judge_requires system place 1 (filter_map requires_in clauses) (running choices start)
    pub scope : here.scope ≡ start.scope
    pub wide : first_wide (all_met_in system start.scope (filter_map requires_in (drop k clauses))) ≡ first_wide (all_met_in system start.scope (filter_map requires_in clauses))

pub judged_start : (system : System) (place : Place) (clauses : List Clause) (start : Run) → JudgedSo system place clauses 0 1 start start
judged_start system place clauses start = record { value = λ choices. refl; scope = refl; wide = refl }

module _ (system : System) (place : Place) (clauses : List Clause) (k : ℕ) (n : ℕ) (start here : Run) (so : JudgedSo system place clauses k n start here) where
  pub judged_end : length clauses ≤ k → Comes start (judge_requires system place 1 (filter_map requires_in clauses)) here
  unfolding judge_requires
  judged_end past choices = sym (ap (λ cs. judge_requires system place n (filter_map requires_in cs) (running choices here)) (drop_all k clauses past)) ∙ so.value choices

  pub judged_met_end : length clauses ≤ k → first_wide (all_met_in system start.scope (filter_map requires_in clauses)) ≡ None
  judged_met_end past = sym so.wide ∙ ap (λ cs. first_wide (all_met_in system start.scope (filter_map requires_in cs))) (drop_all k clauses past)

  module _ (c : Clause) (within : k < length clauses) (is : c ≡ get_or clauses k c) where
    split : filter_map requires_in (drop k clauses) ≡ cons_option (requires_in c) (filter_map requires_in (drop (k + 1) clauses))
    split = ap (filter_map requires_in) (drop_turn clauses k c within is)

    -- a clause of another kind
    pub judged_past : ((p : Place) (e : Expr) → c ≡ Requires p e → ⊥) → JudgedSo system place clauses (k + 1) n start here
    judged_past other =
        let same : filter_map requires_in (drop k clauses) ≡ filter_map requires_in (drop (k + 1) clauses) = split ∙ ap (λ o. cons_option o (filter_map requires_in (drop (k + 1) clauses))) (none c other) in
        record {
          value = λ choices. ap (λ es. judge_requires system place n es (running choices here)) (sym same) ∙ so.value choices;
          scope = so.scope;
          wide = ap (λ es. first_wide (all_met_in system start.scope es)) (sym same) ∙ so.wide;
        }
      where
        none : (d : Clause) → ((p : Place) (e : Expr) → d ≡ Requires p e → ⊥) → requires_in d ≡ None
        none (Requires p e) other = absurd (other p e refl)
        none other' other = refl

    module _ (p : Place) (e : Expr) (requires : c ≡ Requires p e) where
      one_more : filter_map requires_in (drop k clauses) ≡ e ∷ filter_map requires_in (drop (k + 1) clauses)
      one_more = split ∙ ap (λ d. cons_option (requires_in d) (filter_map requires_in (drop (k + 1) clauses))) requires

      met_split : first_wide (met system here.scope e ++ all_met_in system start.scope (filter_map requires_in (drop (k + 1) clauses))) ≡ first_wide (all_met_in system start.scope (filter_map requires_in clauses))
      met_split =
          ap (λ s. first_wide (met system s e ++ all_met_in system start.scope (filter_map requires_in (drop (k + 1) clauses)))) so.scope
          ∙ ap (λ es. first_wide (all_met_in system start.scope es)) (sym one_more) ∙ so.wide

      pub judged_more : (next : Run) (m : ℕ) → Comes here (site_unless (is_true system here.scope e) place n) next → m ≡ n + 1 → first_wide (met system here.scope e) ≡ None → JudgedSo system place clauses (k + 1) m start next
      unfolding judge_requires
      judged_more next m comes number fine =
          record {
            value = λ choices.
                (λ i. judge_requires system place (number i) (filter_map requires_in (drop (k + 1) clauses)) (comes choices i))
                ∙ sym (ap (λ es. judge_requires system place n es (running choices here)) one_more)
                ∙ so.value choices;
            scope = ap (λ r. r.scope) (comes []) ∙ site_scope (is_true system here.scope e) place n (running [] here) ∙ so.scope;
            wide = sym (none_first (met system here.scope e) (all_met_in system start.scope (filter_map requires_in (drop (k + 1) clauses))) fine) ∙ met_split;
          }

      pub judged_told : (X Y : Type 0) (error : EvalError) → TellsWide {A = X} (first_wide (met system here.scope e)) (Err error) →
          TellsWide {A = Y} (first_wide (all_met_in system start.scope (filter_map requires_in clauses))) (Err error)
      judged_told X Y error told =
          subst (λ o. TellsWide {A = Y} o (Err error)) met_split (told_first X Y (met system here.scope e) (all_met_in system start.scope (filter_map requires_in (drop (k + 1) clauses))) error told)

-- the arms of a conditional that are left
module _ (system : System) (s : Scope) (arms : List (Arm Stmt)) (z : Option (List Stmt)) (k : ℕ) where
  abbrev pub TakenFrom : List Stmt → Type 0
  TakenFrom block = taken system s (drop k arms) z ≡ block

  abbrev pub MetFrom : Option Wide → Type 0
  MetFrom o = first_wide (conditions_met system s (drop k arms)) ≡ o

  pub taken_end : (block : List Stmt) → length arms ≤ k → TakenFrom block → else_block z ≡ block
  unfolding taken
  taken_end block past before = sym (ap (λ xs. taken system s xs z) (drop_all k arms past)) ∙ before

  pub conditions_end : (o : Option Wide) → length arms ≤ k → MetFrom o → o ≡ None
  unfolding conditions_met
  conditions_end o past before = sym before ∙ ap (λ xs. first_wide (conditions_met system s xs)) (drop_all k arms past)

  module _ (a : Arm Stmt) (within : k < length arms) (is : a ≡ get_or arms k a) where
    arm : (h : Bool) → h ≡ is_true system s a.condition → taken system s (drop k arms) z ≡ (if h then a.body else taken system s (drop (k + 1) arms) z)
    unfolding taken
    arm h held = ap (λ xs. taken system s xs z) (drop_turn arms k a within is) ∙ ap (λ b. if b then a.body else taken system s (drop (k + 1) arms) z) (sym held)

    arm_met : (h : Bool) → h ≡ is_true system s a.condition → conditions_met system s (drop k arms) ≡ met system s a.condition ++ (if h then [] else conditions_met system s (drop (k + 1) arms))
    unfolding conditions_met
    arm_met h held =
        ap (conditions_met system s) (drop_turn arms k a within is)
        ∙ ap (λ b. met system s a.condition ++ (if b then [] else conditions_met system s (drop (k + 1) arms))) (sym held)

    pub taken_here : (block : List Stmt) → true ≡ is_true system s a.condition → TakenFrom block → a.body ≡ block
    taken_here block held before = sym (arm true held) ∙ before

    pub taken_later : (block : List Stmt) → false ≡ is_true system s a.condition → TakenFrom block → taken system s (drop (k + 1) arms) z ≡ block
    taken_later block held before = sym (arm false held) ∙ before

    pub conditions_told : (X Y : Type 0) (o : Option Wide) (error : EvalError) → MetFrom o → TellsWide {A = X} (first_wide (met system s a.condition)) (Err error) → TellsWide {A = Y} o (Err error)
    conditions_told X Y o error before told =
        subst (λ p. TellsWide {A = Y} p (Err error)) (sym (ap first_wide (arm_met _ refl)) ∙ before) (told_first X Y (met system s a.condition) _ error told)

    pub conditions_here : (o : Option Wide) → true ≡ is_true system s a.condition → first_wide (met system s a.condition) ≡ None → MetFrom o → o ≡ None
    conditions_here o held fine before = sym before ∙ ap first_wide (arm_met true held) ∙ none_first (met system s a.condition) [] fine

    pub conditions_later : (o : Option Wide) → false ≡ is_true system s a.condition → first_wide (met system s a.condition) ≡ None → MetFrom o → first_wide (conditions_met system s (drop (k + 1) arms)) ≡ o
    conditions_later o held fine before =
        sym (ap first_wide (arm_met false held) ∙ none_first (met system s a.condition) (conditions_met system s (drop (k + 1) arms)) fine) ∙ before
