-- A statement asks and meets what its form asks and meets.
use Rattle.std.proofs.Common.{◌≡◌, ℕ, Bool, List, [], ◌∷◌, ◌++◌, map, Option, ap, ◌∙◌, sym}
use Rattle.std.specs.Prelude.{Result, Ok, Err, IfOk}
use Rattle.uc_lexer.specs.declared.place.Place.{Place}
use Rattle.uc_syntax.specs.declared.place.Identifier.{Identifier}
use Rattle.uc_syntax.specs.declared.type_expression.TypeExpr.{TypeExpr}
use Rattle.uc_syntax.specs.declared.expression.Expr.{Expr}
use Rattle.uc_syntax.specs.declared.statement.Arm.{Arm}
use Rattle.uc_syntax.specs.declared.statement.RangeBound.{RangeBound}
use Rattle.uc_syntax.specs.declared.statement.Target.{Target}
use Rattle.uc_syntax.specs.declared.statement.Stmt.{Stmt}
use Rattle.uc_syntax.specs.declared.statement.Stmt.TheViews.{Block, If, Case, For}
use Rattle.uc_syntax.specs.declared.statement.Stmt.TheVariants.{Local, Skip, Assert, Assume, Havoc, Assign, Call, Next}
use Rattle.uc_values.specs.declared.ty.Ty.{Ty}
use Rattle.uc_values.specs.declared.value.Value.{Value}
use Rattle.uc_meaning.specs.declared.scope.Scope.{Scope}
use Rattle.uc_meaning.specs.declared.overflow.Wide.{Wide}
use Rattle.uc_meaning.specs.Lookup.{System, module_at}
use Rattle.uc_meaning.specs.Expressions.{value, is_true}
use Rattle.uc_meaning.specs.Overflow.{met}
use Rattle.uc_meaning.specs.Code.{run, taken, turns, turn_type, call}
use Rattle.uc_meaning.specs.Steps.{Watched, Check, Kept, Constraint, kept_if, check_targets, check_call, check_instance, check_through, running, watched_site, writes, name_parts}
use Rattle.uc_meaning.specs.OverflowsRuns.{run_met, met_after, all_met_in, conditions_met, call_met}
use Rattle.uc_meaning.specs.Checks.{check_met_through, assigned_met, call_left_met, instance_met}
use Rattle.uc_checks.specs.declared.seen.Seen.{Seen}
use Rattle.uc_checks.specs.Watches.{watched, check_of, Asks}
use Rattle.uc_checks.specs.Levels.{check_at, check_met_at, asked_at, asked_met_at, turns_at, turns_met_at}
use Rattle.uc_checks.proofs.Forms.{local_asks, skip_asks, block_asks, assert_asks, assume_asks, havoc_asks, assign_asks, if_asks, case_asks, for_asks, call_asks, next_asks, local_meets, skip_meets, block_meets, assert_meets, assume_meets, havoc_meets, assign_meets, if_meets, case_meets, for_meets, call_meets, next_meets}

module _ (n : ℕ) (system : System) (s : Stmt) (w : Watched) where
  asks : (t : Stmt) (c : Check) → s ≡ t → asked_at n system t w ≡ c → c ≡ asked_at n system s w
  asks t c is form = sym (ap (λ u. asked_at n system u w) is ∙ form)

  meets : (t : Stmt) (ws : List Wide) → s ≡ t → asked_met_at n system t w ≡ ws → ws ≡ asked_met_at n system s w
  meets t ws is form = sym (ap (λ u. asked_met_at n system u w) is ∙ form)

  module _ (p : Place) (names : List Identifier) (type : TypeExpr) (is : s ≡ Local p names type) where
    pub local_is : Kept w ≡ asked_at n system s w
    local_is = asks (Local p names type) _ is (local_asks n system p names type w)

    pub local_met : [] ≡ asked_met_at n system s w
    local_met = meets (Local p names type) _ is (local_meets n system p names type w)

  module _ (p : Place) (is : s ≡ Skip p) where
    pub skip_is : Kept w ≡ asked_at n system s w
    skip_is = asks (Skip p) _ is (skip_asks n system p w)

    pub skip_met : [] ≡ asked_met_at n system s w
    skip_met = meets (Skip p) _ is (skip_meets n system p w)

  module _ (p : Place) (label : Option Identifier) (e : Expr) (is : s ≡ Assert p label e) where
    pub assert_is : Kept (watched_site (is_true system w.scope e) p w) ≡ asked_at n system s w
    assert_is = asks (Assert p label e) _ is (assert_asks n system p label e w)

    pub assert_met : met system w.scope e ≡ asked_met_at n system s w
    assert_met = meets (Assert p label e) _ is (assert_meets n system p label e w)

  module _ (p : Place) (e : Expr) (is : s ≡ Assume p e) where
    pub assume_is : kept_if (is_true system w.scope e) w ≡ asked_at n system s w
    assume_is = asks (Assume p e) _ is (assume_asks n system p e w)

    pub assume_met : met system w.scope e ≡ asked_met_at n system s w
    assume_met = meets (Assume p e) _ is (assume_meets n system p e w)

  module _ (p : Place) (x : Identifier) (primed : Bool) (is : s ≡ Havoc p x primed) where
    pub havoc_is : Kept (writes (name_parts system w.scope x.name) w) ≡ asked_at n system s w
    havoc_is = asks (Havoc p x primed) _ is (havoc_asks n system p x primed w)

    pub havoc_met : [] ≡ asked_met_at n system s w
    havoc_met = meets (Havoc p x primed) _ is (havoc_meets n system p x primed w)

  module _ (p : Place) (i : Identifier) (is : s ≡ Next p i) where
    pub next_is : check_instance (check_through n system) (w.scope.path ++ i.name ∷ []) (module_at system (w.scope.path ++ i.name ∷ [])) w ≡ asked_at n system s w
    next_is = asks (Next p i) _ is (next_asks n system p i w)

    pub next_met : instance_met (check_met_through n system) (w.scope.path ++ i.name ∷ []) (module_at system (w.scope.path ++ i.name ∷ [])) w ≡ asked_met_at n system s w
    next_met = meets (Next p i) _ is (next_meets n system p i w)

  module _ (p : Place) (block : List Stmt) (is : s ≡ Block p block) (seen : List Stmt) (same : seen ≡ block) where
    pub block_is : check_at n system seen w ≡ asked_at n system s w
    block_is = ap (λ b. check_at n system b w) same ∙ asks (Block p block) _ is (block_asks n system p block w)

    pub block_met : check_met_at n system seen w ≡ asked_met_at n system s w
    block_met = ap (λ b. check_met_at n system b w) same ∙ meets (Block p block) _ is (block_meets n system p block w)

  module _ (p : Place) (targets : List Target) (sources : List Expr) (is : s ≡ Assign p targets sources) (ts : List Target) (es : List Expr) (first : ts ≡ targets) (second : es ≡ sources) where
    pub assign_is : check_targets system ts (map (value system w.scope) es) w ≡ asked_at n system s w
    assign_is = (λ i. check_targets system (first i) (map (value system w.scope) (second i)) w) ∙ asks (Assign p targets sources) _ is (assign_asks n system p targets sources w)

    pub assign_met : all_met_in system w.scope es ++ assigned_met system ts (map (value system w.scope) es) w.scope ≡ asked_met_at n system s w
    assign_met = (λ i. all_met_in system w.scope (second i) ++ assigned_met system (first i) (map (value system w.scope) (second i)) w.scope) ∙ meets (Assign p targets sources) _ is (assign_meets n system p targets sources w)

  module _ (p : Place) (arms : List (Arm Stmt)) (z : Option (List Stmt)) (seen : List (Arm Stmt)) (same : seen ≡ arms) where
    pub if_is : s ≡ If p arms z → check_at n system (taken system w.scope seen z) w ≡ asked_at n system s w
    if_is is = ap (λ xs. check_at n system (taken system w.scope xs z) w) same ∙ asks (If p arms z) _ is (if_asks n system p arms z w)

    pub if_met : s ≡ If p arms z → conditions_met system w.scope seen ++ check_met_at n system (taken system w.scope seen z) w ≡ asked_met_at n system s w
    if_met is = ap (λ xs. conditions_met system w.scope xs ++ check_met_at n system (taken system w.scope xs z) w) same ∙ meets (If p arms z) _ is (if_meets n system p arms z w)

    pub case_is : s ≡ Case p arms z → check_at n system (taken system w.scope seen z) w ≡ asked_at n system s w
    case_is is = ap (λ xs. check_at n system (taken system w.scope xs z) w) same ∙ asks (Case p arms z) _ is (case_asks n system p arms z w)

    pub case_met : s ≡ Case p arms z → conditions_met system w.scope seen ++ check_met_at n system (taken system w.scope seen z) w ≡ asked_met_at n system s w
    case_met is = ap (λ xs. conditions_met system w.scope xs ++ check_met_at n system (taken system w.scope xs z) w) same ∙ meets (Case p arms z) _ is (case_meets n system p arms z w)

  module _ (p : Place) (x : Identifier) (type : Option TypeExpr) (from to : RangeBound) (block : List Stmt) (is : s ≡ For p x type from to block) (t : Ty) (vs : List Value) (typed : t ≡ turn_type from) (taking : vs ≡ turns from to) (seen : List Stmt) (same : seen ≡ block) where
    pub for_is : turns_at n system x.name t seen vs w ≡ asked_at n system s w
    for_is = (λ i. turns_at n system x.name (typed i) (same i) (taking i) w) ∙ asks (For p x type from to block) _ is (for_asks n system p x type from to block w)

    pub for_met : turns_met_at n system x.name t seen vs w ≡ asked_met_at n system s w
    for_met = (λ i. turns_met_at n system x.name (typed i) (same i) (taking i) w) ∙ meets (For p x type from to block) _ is (for_meets n system p x type from to block w)

  module _ (p : Place) (targets : List Target) (f : Identifier) (arguments : List Expr) (is : s ≡ Call p targets f arguments) (ts : List Target) (es : List Expr) (first : ts ≡ targets) (second : es ≡ arguments) where
    pub call_is : check_call system ts f.name w (call system (run system) p ts f.name es (running w)) ≡ asked_at n system s w
    call_is = (λ i. check_call system (first i) f.name w (call system (run system) p (first i) f.name (second i) (running w))) ∙ asks (Call p targets f arguments) _ is (call_asks n system p targets f arguments w)

    pub call_met_is : call_met system (run system) (run_met system) p ts f.name es (running w) ++ met_after (call system (run system) p ts f.name es (running w)) (call_left_met system ts f.name w) ≡ asked_met_at n system s w
    call_met_is = (λ i. call_met system (run system) (run_met system) p (first i) f.name (second i) (running w) ++ met_after (call system (run system) p (first i) f.name (second i) (running w)) (call_left_met system (first i) f.name w)) ∙ meets (Call p targets f arguments) _ is (call_meets n system p targets f arguments w)

-- an answer for all choices is one for some
pub at_choices : {E : Type 0} (s : Scope) (start : Seen) (c : Constraint) (choices : List Value) (result : Result (Option Seen) E) → IfOk result (λ o. Asks s start c o) → IfOk result (λ o. check_of s choices o ≡ c (watched s choices start))
at_choices s start c choices (Ok o) gives = gives choices
at_choices s start c choices (Err e) gives = tt
