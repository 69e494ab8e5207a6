-- What sequential code lists stands in it.
use Rattle.std.proofs.Common.{List, [], ◌∷◌, map, Option, Some, None, sym, subst, inl, ℕ, zero, suc, ◌≤◌, Bool, true, false, arith}
use Rattle.std.specs.Prelude.{if◌then◌else◌}
use Rattle.uc_lexer.specs.declared.place.Place.{Place}
use Rattle.uc_syntax.specs.declared.place.Identifier.{Identifier}
use Rattle.uc_syntax.specs.declared.type_expression.TypeExpr.{TypeExpr}
use Rattle.uc_syntax.specs.declared.statement.Arm.{Arm}
use Rattle.uc_syntax.specs.declared.statement.Stmt.{Stmt}
use Rattle.uc_syntax.specs.declared.statement.Stmt.TheOpen.{Stmt-F}
use Rattle.uc_syntax.specs.declared.statement.Stmt.TheOpen.Stmt-F.{Local as Declare, Skip, Block, Assert, Assume, Havoc, Assign, If, Case, For, Call, Next}
use Rattle.uc_syntax.specs.declared.statement.Stmt.TheViews.{roll-Stmt}
use Rattle.uc_syntax.specs.declared.statement.Stmt.TheFolds.{fold-Stmt, map-Stmt, fold-roll-Stmt, ind-Stmt}
use Rattle.uc_syntax.specs.declared.declaration.Module.{Module}
use Rattle.uc_meaning.specs.declared.scope.Site.{Site}
use Rattle.uc_meaning.specs.Lookup.{System, module_at}
use Rattle.uc_meaning.specs.Code.{Running, Goes, Stopped, Execution, Bodies, in_scope, declare_at, set_name, name_now, turns, turn_type, run_form, run_statement, run_by, run_through, run}
use Rattle.uc_meaning.specs.Cells.{longest_chain}
use Rattle.uc_meaning.specs.Expressions.{is_true, value}
use Rattle.uc_meaning.specs.Lines.{Sites, all_sites, sites_form, sites_by, sites_through}
use Rattle.uc_laws.proofs.Among.{among_mapped}
use Rattle.uc_laws.proofs.Grows.{grown_none, Within, Stays, AllStay, ArmsStay, ElseStays, within_more, each_stays, block_stays, loop_stays, arms_stay}
use Rattle.uc_laws.proofs.Calls.{unless_grown, choose_stays, declare_stays, set_path, writes_path, call_stays}

abbrev pub arms_of : {X : Type 0} → Stmt-F X → List (Arm X)
arms_of (If place arms otherwise) = arms
arms_of (Case place arms otherwise) = arms
arms_of other = []

abbrev pub else_of : {X : Type 0} → Stmt-F X → Option (List X)
else_of (If place arms otherwise) = otherwise
else_of (Case place arms otherwise) = otherwise
else_of other = None

declared_stays : (system : System) (m : Option Module) (names : List Identifier) (type : TypeExpr) (sites : Sites) → Stays sites (declare_at system m names type)
declared_stays system None names type sites r = tt
declared_stays system (Some m) names type sites r = declare_stays system m (map (λ i. (i.name, type)) names) sites r

assumed : (p : List ℕ) (before inside : List Site) (r : Running) (b : Bool) → Within p before inside (Goes r) → Within p before inside (if b then Goes r else Stopped)
assumed p before inside r true w = w
assumed p before inside r false w = tt

module _ {A D : Type 0} (d : D → A) (f : A → Sites) (g : A → Execution) (same : (e : D) → Stays (f (d e)) (g (d e))) where
  list_stay : (es : List D) → AllStay (map f (map d es)) (map g (map d es))
  list_stay [] = tt
  list_stay (e ∷ es) = (same e, list_stay es)

  abbrev left : Stmt-F D → Stmt-F Sites
  left y = map-Stmt A Sites f (map-Stmt D A d y)

  abbrev right : Stmt-F D → Stmt-F Execution
  right y = map-Stmt A Execution g (map-Stmt D A d y)

  if_arms : (p : Place) (arms : List (Arm D)) (o : Option (List D)) → ArmsStay (arms_of (left (If p arms o))) (arms_of (right (If p arms o)))
  if_arms p [] o = tt
  if_arms p (a ∷ arms) o = (list_stay a.body, if_arms p arms o)

  case_arms : (p : Place) (arms : List (Arm D)) (o : Option (List D)) → ArmsStay (arms_of (left (Case p arms o))) (arms_of (right (Case p arms o)))
  case_arms p [] o = tt
  case_arms p (a ∷ arms) o = (list_stay a.body, case_arms p arms o)

  if_else : (p : Place) (arms : List (Arm D)) (o : Option (List D)) → ElseStays (else_of (left (If p arms o))) (else_of (right (If p arms o)))
  if_else p arms None = tt
  if_else p arms (Some es) = list_stay es

  case_else : (p : Place) (arms : List (Arm D)) (o : Option (List D)) → ElseStays (else_of (left (Case p arms o))) (else_of (right (Case p arms o)))
  case_else p arms None = tt
  case_else p arms (Some es) = list_stay es

  module _ (system : System) (runs : Bodies) (inside : List Stmt → Sites) (lists : (code : List Stmt) → Stays (inside code) (runs code)) where
    run_layer : (y : Stmt-F D) → Stays (sites_form system inside (left y)) (run_form system runs (right y))
    run_layer (Declare p names type) r = declared_stays system (module_at system r.scope.path) names type (λ q. []) r
    run_layer (Skip p) r = grown_none r.scope.path r.sites []
    run_layer (Block p block) r = block_stays _ _ (list_stay block) r
    run_layer (Assert p label e) r = unless_grown (is_true system r.scope e) p 0 r
    run_layer (Assume p e) r = assumed r.scope.path r.sites [] r (is_true system r.scope e) (grown_none r.scope.path r.sites [])
    run_layer (Havoc p x primed) r =
        choose_stays (name_now system r.scope x.name).type (λ v r'. Goes (in_scope r' (set_name system r'.scope x.name v))) (λ q. [])
        (λ v r'. record { path = set_path system r'.scope x.name v; listed = λ s h. inl h }) r
    run_layer (Assign p targets sources) r = record { path = writes_path system targets (map (value system r.scope) sources) r.scope; listed = λ s h. inl h }
    run_layer (If p arms o) r = arms_stay system (arms_of (left (If p arms o))) (arms_of (right (If p arms o))) (else_of (left (If p arms o))) (else_of (right (If p arms o))) (if_arms p arms o) (if_else p arms o) r
    run_layer (Case p arms o) r = arms_stay system (arms_of (left (Case p arms o))) (arms_of (right (Case p arms o))) (else_of (left (Case p arms o))) (else_of (right (Case p arms o))) (case_arms p arms o) (case_else p arms o) r
    run_layer (For p x type from to block) r = loop_stays x.name (turn_type from) _ _ (list_stay block) (turns from to) r
    run_layer (Call p targets f arguments) r = call_stays system runs inside lists p targets f.name arguments r
    run_layer (Next p i) r = tt

-- a statement
pub run_lists : (system : System) (runs : Bodies) (inside : List Stmt → Sites) → ((code : List Stmt) → Stays (inside code) (runs code)) → (s : Stmt) →
    Stays (fold-Stmt Sites (sites_form system inside) s) (run_statement system runs s)
unfolding run_statement
run_lists system runs inside lists =
    ind-Stmt (λ s. Stays (fold-Stmt Sites (sites_form system inside) s) (fold-Stmt Execution (run_form system runs) s))
    (λ x y is.
    let F = fold-Stmt Sites (sites_form system inside) in
    let G = fold-Stmt Execution (run_form system runs) in
    let way = run_layer (λ e. e.0) F G (λ e. e.1) system runs inside lists y in
    let way' = subst (λ z. Stays (sites_form system inside (map-Stmt Stmt Sites F z)) (run_form system runs (map-Stmt Stmt Execution G z))) is way in
    let left' = subst (λ S. Stays S (run_form system runs (map-Stmt Stmt Execution G x))) (sym (fold-roll-Stmt Sites (sites_form system inside) x)) way' in
    subst (λ X. Stays (F (roll-Stmt x)) X) (sym (fold-roll-Stmt Execution (run_form system runs) x)) left')

code_stay : (F : Stmt → Sites) (G : Stmt → Execution) → ((s : Stmt) → Stays (F s) (G s)) → (code : List Stmt) → AllStay (map F code) (map G code)
code_stay F G all [] = tt
code_stay F G all (s ∷ code) = (all s, code_stay F G all code)

pub run_by_lists : (system : System) (runs : Bodies) (inside : List Stmt → Sites) → ((code : List Stmt) → Stays (inside code) (runs code)) → (code : List Stmt) →
    Stays (sites_by system inside code) (run_by system runs code)
unfolding run_by sites_by
run_by_lists system runs inside lists code r =
    let F = fold-Stmt Sites (sites_form system inside) in
    within_more r.scope.path r.sites (all_sites (map F code) r.scope.path) _ (run_by system runs code r)
    (λ s h. among_mapped F (λ p. p r.scope.path) s code h)
    (each_stays (map F code) (map (run_statement system runs) code) (code_stay F (run_statement system runs) (run_lists system runs inside lists) code) r)

-- calls inside each other
pub run_through_lists : (n m : ℕ) (system : System) → n ≤ m → (code : List Stmt) → Stays (sites_through m system code) (run_through n system code)
unfolding run_through sites_through
run_through_lists zero m system le code r = tt
run_through_lists (suc n) zero system le code r = absurd (omega arith)
run_through_lists (suc n) (suc m) system le code r = run_by_lists system (run_through n system) (sites_through m system) (run_through_lists n m system (omega arith)) code r

pub run_lists_through : (m : ℕ) (system : System) → longest_chain ≤ m → (code : List Stmt) → Stays (sites_through (suc m) system code) (run system code)
unfolding sites_through
run_lists_through m system le code r = run_by_lists system (run_through longest_chain system) (sites_through m system) (run_through_lists longest_chain m system le) code r
