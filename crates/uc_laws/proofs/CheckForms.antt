-- What a next block lists stands in it.
use Rattle.std.proofs.Common.{◌≡◌, List, [], ◌∷◌, ◌++◌, map, Option, Some, None, refl, sym, subst, ℕ, zero, suc, ◌+◌, ◌<◌, Bool, true, false, arith}
use Rattle.std.specs.Prelude.{if◌then◌else◌}
use Rattle.uc_lexer.specs.declared.place.Place.{Place}
use Rattle.uc_syntax.specs.declared.statement.Arm.{Arm}
use Rattle.uc_syntax.specs.declared.statement.Target.{Target}
use Rattle.uc_syntax.specs.declared.statement.Stmt.{Stmt}
use Rattle.uc_syntax.specs.declared.statement.Stmt.TheOpen.{Stmt-F}
use Rattle.uc_syntax.specs.declared.statement.Stmt.TheOpen.Stmt-F.{Local as Declare, Skip, Block, Assert, Assume, Havoc, Assign, If, Case, For, Call, Next}
use Rattle.uc_syntax.specs.declared.statement.Stmt.TheViews.{roll-Stmt}
use Rattle.uc_syntax.specs.declared.statement.Stmt.TheFolds.{fold-Stmt, map-Stmt, fold-roll-Stmt, ind-Stmt}
use Rattle.uc_syntax.specs.declared.declaration.Module.{Module}
use Rattle.uc_values.specs.declared.ty.Ty.{Ty}
use Rattle.uc_values.specs.declared.value.Value.{Value}
use Rattle.uc_meaning.specs.declared.scope.Scope.{Scope}
use Rattle.uc_meaning.specs.declared.scope.Site.{Site}
use Rattle.uc_meaning.specs.Lookup.{System, module_at, next_of}
use Rattle.uc_meaning.specs.Code.{Ending, Goes, Stopped, Unfit, taken, else_block, turns, turn_type, run, call}
use Rattle.uc_meaning.specs.Steps.{Watched, Check, Kept, Broken, Constraint, Blocks, then_check, check_each, kept_if, check_targets, is_assigned, writes, target_parts, check_call, all_left, modified_by, running, watched_site, with_local, back_in, check_turns, check_instance, check_form, check_statement, check_by, check_through, check}
use Rattle.uc_meaning.specs.Cells.{longest_chain}
use Rattle.uc_meaning.specs.Expressions.{is_true, value, at_path}
use Rattle.uc_meaning.specs.Lines.{Sites, all_sites, arm_sites, else_sites, sites_if_turns, site_at, next_sites, sites_form, sites_by, sites_through, sites_in}
use Rattle.uc_laws.proofs.Among.{Among, among_left, among_right, among_mapped}
use Rattle.uc_laws.proofs.Grows.{Grown, grown_none, grown_more, grown_then, Within, Stays, first_wide, rest_wide}
use Rattle.uc_laws.proofs.Calls.{site_listed, call_stays}
use Rattle.uc_laws.proofs.RunForms.{arms_of, else_of, run_lists_through}

-- how a constraint comes out, if it holds
abbrev pub Holds : List ℕ → List Site → List Site → Check → Type 0
Holds p before inside (Kept w) = Grown p before inside w.scope.path w.sites
Holds p before inside Broken = Unit {0}

abbrev pub Sees : Sites → Constraint → Type 0
Sees sites c = (w : Watched) → Holds w.scope.path w.sites (sites w.scope.path) (c w)

pub sees_at : (sites : Sites) (c : Constraint) → Sees sites c → (w : Watched) (p : List ℕ) → w.scope.path ≡ p → Holds p w.sites (sites p) (c w)
sees_at sites c sees w p e = subst (λ q. Holds q w.sites (sites q) (c w)) e (sees w)

pub holds_more : (p : List ℕ) (before inside more : List Site) (e : Check) → ((s : Site) → Among s inside → Among s more) → Holds p before inside e → Holds p before more e
holds_more p before inside more (Kept w) wider h = grown_more p before inside more w.scope.path w.sites wider h
holds_more p before inside more Broken wider h = tt

holds_after : (p : List ℕ) (before inside : List Site) (q : List ℕ) (mid : List Site) (e : Check) → Grown p before inside q mid → Holds p mid inside e → Holds p before inside e
holds_after p before inside q mid (Kept w) g h = grown_then p before inside q mid w.scope.path w.sites g h
holds_after p before inside q mid Broken g h = tt

pub holds_then : (p : List ℕ) (before inside : List Site) (e : Check) (next : Constraint) → Holds p before inside e → ((w : Watched) → w.scope.path ≡ p → Holds p w.sites inside (next w)) → Holds p before inside (then_check e next)
holds_then p before inside (Kept w) next h after = holds_after p before inside w.scope.path w.sites (next w) h (after w h.path)
holds_then p before inside Broken next h after = tt

holds_if : (p : List ℕ) (before inside : List Site) (b : Bool) (w : Watched) → Grown p before inside w.scope.path w.sites → Holds p before inside (kept_if b w)
holds_if p before inside true w g = g
holds_if p before inside false w g = tt

holds_back : (s : Scope) (q : List ℕ) (before inside : List Site) (e : Check) → Holds q before inside e → Holds s.path before inside (then_check e (back_in s))
holds_back s q before inside (Kept w) h = record { path = refl; listed = h.listed }
holds_back s q before inside Broken h = tt

abbrev pub AllSee : List Sites → List Constraint → Type 0
AllSee [] [] = Unit {0}
AllSee (s ∷ ss) (x ∷ xs) = Sees s x × AllSee ss xs
AllSee [] (x ∷ xs) = ⊥
AllSee (s ∷ ss) [] = ⊥

pub each_sees : (ss : List Sites) (xs : List Constraint) → AllSee ss xs → Sees (all_sites ss) (check_each xs)
unfolding check_each
each_sees [] [] all w = grown_none w.scope.path w.sites []
each_sees [] (x ∷ xs) all w = elim all [ ]
each_sees (s ∷ ss) [] all w = elim all [ ]
each_sees (s ∷ ss) (x ∷ xs) all w =
    let p = w.scope.path in
    let here = s p in
    let rest = all_sites ss p in
    holds_then p w.sites (here ++ rest) (x w) (check_each xs)
    (holds_more p w.sites here (here ++ rest) (x w) (λ a. among_left a here rest) (all.0 w))
    (λ w' e. holds_more p w'.sites rest (here ++ rest) (check_each xs w') (λ a. among_right a here rest) (sees_at (all_sites ss) (check_each xs) (each_sees ss xs all.1) w' p e))

turns_see : (x : ℕ) (t : Ty) (ss : List Sites) (xs : List Constraint) → AllSee ss xs → (vs : List Value) → Sees (all_sites ss) (check_turns x t xs vs)
unfolding check_turns
turns_see x t ss xs all [] w = grown_none w.scope.path w.sites (all_sites ss w.scope.path)
turns_see x t ss xs all (v ∷ vs) w =
    holds_then w.scope.path w.sites (all_sites ss w.scope.path) (check_each xs (with_local x t v w)) _
    (each_sees ss xs all (with_local x t v w))
    (λ w' e. turns_see x t ss xs all vs (record w' { scope = w.scope }))

pub loop_sees : (x : ℕ) (t : Ty) (ss : List Sites) (xs : List Constraint) → AllSee ss xs → (vs : List Value) → Sees (λ p. sites_if_turns vs (all_sites ss p)) (check_turns x t xs vs)
unfolding check_turns
loop_sees x t ss xs all [] w = grown_none w.scope.path w.sites []
loop_sees x t ss xs all (v ∷ vs) w = turns_see x t ss xs all (v ∷ vs) w

abbrev pub ArmsSee : List (Arm Sites) → List (Arm Constraint) → Type 0
ArmsSee [] [] = Unit {0}
ArmsSee (a ∷ arms) (b ∷ others) = AllSee a.body b.body × ArmsSee arms others
ArmsSee [] (b ∷ others) = ⊥
ArmsSee (a ∷ arms) [] = ⊥

abbrev pub ElseSees : Option (List Sites) → Option (List Constraint) → Type 0
ElseSees None None = Unit {0}
ElseSees (Some ss) (Some xs) = AllSee ss xs
ElseSees None (Some xs) = ⊥
ElseSees (Some ss) None = ⊥

pub record TakenSees (arms : List (Arm Sites)) (otherwise : Option (List Sites)) (xs : List Constraint) : Type 0 where
  pub sites : List Sites
  pub see : AllSee sites xs
  pub among : (p : List ℕ) (s : Site) → Among s (all_sites sites p) → Among s (arm_sites arms p ++ else_sites otherwise p)

picked : (arms : List (Arm Sites)) (otherwise : Option (List Sites)) (c : Bool) (xs ys : List Constraint) → TakenSees arms otherwise xs → TakenSees arms otherwise ys → TakenSees arms otherwise (if c then xs else ys)
picked arms otherwise true xs ys t u = t
picked arms otherwise false xs ys t u = u

else_taken : (o : Option (List Sites)) (q : Option (List Constraint)) → ElseSees o q → TakenSees [] o (else_block q)
else_taken None None h = record { sites = []; see = tt; among = λ p s k. k }
else_taken (Some ss) (Some xs) h = record { sites = ss; see = h; among = λ p s k. k }
else_taken None (Some xs) h = elim h [ ]
else_taken (Some ss) None h = elim h [ ]

pub taken_sees : (system : System) (s : Scope) (arms : List (Arm Sites)) (others : List (Arm Constraint)) (o : Option (List Sites)) (q : Option (List Constraint)) → ArmsSee arms others → ElseSees o q →
    TakenSees arms o (taken system s others q)
unfolding taken
taken_sees system s [] [] o q h k = else_taken o q k
taken_sees system s [] (b ∷ others) o q h k = elim h [ ]
taken_sees system s (a ∷ arms) [] o q h k = elim h [ ]
taken_sees system s (a ∷ arms) (b ∷ others) o q h k =
    let rest = taken_sees system s arms others o q h.1 k in
    picked (a ∷ arms) o (is_true system s b.condition) b.body (taken system s others q)
    (record { sites = a.body; see = h.0; among = λ p z j. first_wide p a arms o z j })
    (record { sites = rest.sites; see = rest.see; among = λ p z j. rest_wide p a arms o z (rest.among p z j) })

pub arms_see : (system : System) (arms : List (Arm Sites)) (others : List (Arm Constraint)) (o : Option (List Sites)) (q : Option (List Constraint)) → ArmsSee arms others → ElseSees o q →
    Sees (λ p. arm_sites arms p ++ else_sites o p) (λ w. check_each (taken system w.scope others q) w)
arms_see system arms others o q h k w =
    let t = taken_sees system w.scope arms others o q h k in
    holds_more w.scope.path w.sites (all_sites t.sites w.scope.path) (arm_sites arms w.scope.path ++ else_sites o w.scope.path) (check_each (taken system w.scope others q) w) (t.among w.scope.path)
    (each_sees t.sites (taken system w.scope others q) t.see w)

site_seen : (b : Bool) (place : Place) (w : Watched) → Grown w.scope.path w.sites (site_at w.scope.path place 0 ∷ []) (watched_site b place w).scope.path (watched_site b place w).sites
site_seen true place w = grown_none w.scope.path w.sites (site_at w.scope.path place 0 ∷ [])
site_seen false place w = record { path = refl; listed = λ s h. site_listed s (site_at w.scope.path place 0) w.sites h }

targets_see : (system : System) (ts : List Target) (vs : List Value) → Sees (λ p. []) (check_targets system ts vs)
unfolding check_targets
targets_see system [] vs w = grown_none w.scope.path w.sites []
targets_see system (t ∷ ts) [] w = grown_none w.scope.path w.sites []
targets_see system (t ∷ ts) (v ∷ vs) w =
    holds_then w.scope.path w.sites [] (kept_if (is_assigned system w.scope t v) (writes (target_parts system w.scope t) w)) (check_targets system ts vs)
    (holds_if w.scope.path w.sites [] (is_assigned system w.scope t v) (writes (target_parts system w.scope t) w) (grown_none w.scope.path w.sites []))
    (λ w' e. sees_at (λ p. []) (check_targets system ts vs) (targets_see system ts vs) w' w.scope.path e)

call_seen : (system : System) (targets : List Target) (f : ℕ) (w : Watched) (e : Ending) (inside : List Site) → Within w.scope.path w.sites inside e → Holds w.scope.path w.sites inside (check_call system targets f w e)
call_seen system targets f w (Goes r) inside h = holds_if w.scope.path w.sites inside (all_left system w.scope r.scope targets (modified_by system w.scope f)) _ (record { path = refl; listed = h.listed })
call_seen system targets f w Stopped inside h = tt
call_seen system targets f w (Unfit left) inside h = tt

instance_sees : (blocks : Blocks) (inside : List Stmt → Sites) → ((code : List Stmt) → Sees (inside code) (blocks code)) → (path : List ℕ) (m : Option Module) (w : Watched) →
    Holds w.scope.path w.sites (next_sites inside path m) (check_instance blocks path m w)
instance_sees blocks inside sees path None w = tt
instance_sees blocks inside sees path (Some m) w =
    holds_back w.scope path w.sites (inside (next_of m) path) (blocks (next_of m) (record w { scope = at_path w.scope path })) (sees (next_of m) (record w { scope = at_path w.scope path }))

module _ {A D : Type 0} (d : D → A) (f : A → Sites) (g : A → Constraint) (same : (e : D) → Sees (f (d e)) (g (d e))) where
  list_see : (es : List D) → AllSee (map f (map d es)) (map g (map d es))
  list_see [] = tt
  list_see (e ∷ es) = (same e, list_see es)

  abbrev left : Stmt-F D → Stmt-F Sites
  left y = map-Stmt A Sites f (map-Stmt D A d y)

  abbrev right : Stmt-F D → Stmt-F Constraint
  right y = map-Stmt A Constraint g (map-Stmt D A d y)

  if_arms : (p : Place) (arms : List (Arm D)) (o : Option (List D)) → ArmsSee (arms_of (left (If p arms o))) (arms_of (right (If p arms o)))
  if_arms p [] o = tt
  if_arms p (a ∷ arms) o = (list_see a.body, if_arms p arms o)

  case_arms : (p : Place) (arms : List (Arm D)) (o : Option (List D)) → ArmsSee (arms_of (left (Case p arms o))) (arms_of (right (Case p arms o)))
  case_arms p [] o = tt
  case_arms p (a ∷ arms) o = (list_see a.body, case_arms p arms o)

  if_else : (p : Place) (arms : List (Arm D)) (o : Option (List D)) → ElseSees (else_of (left (If p arms o))) (else_of (right (If p arms o)))
  if_else p arms None = tt
  if_else p arms (Some es) = list_see es

  case_else : (p : Place) (arms : List (Arm D)) (o : Option (List D)) → ElseSees (else_of (left (Case p arms o))) (else_of (right (Case p arms o)))
  case_else p arms None = tt
  case_else p arms (Some es) = list_see es

  module _ (system : System) (blocks : Blocks) (inside : List Stmt → Sites) (sees : (code : List Stmt) → Sees (inside code) (blocks code)) (lists : (code : List Stmt) → Stays (inside code) (run system code)) where
    check_layer : (y : Stmt-F D) → Sees (sites_form system inside (left y)) (check_form system blocks (right y))
    check_layer (Declare p names type) w = grown_none w.scope.path w.sites []
    check_layer (Skip p) w = grown_none w.scope.path w.sites []
    check_layer (Block p block) w = each_sees _ _ (list_see block) w
    check_layer (Assert p label e) w = site_seen (is_true system w.scope e) p w
    check_layer (Assume p e) w = holds_if w.scope.path w.sites [] (is_true system w.scope e) w (grown_none w.scope.path w.sites [])
    check_layer (Havoc p x primed) w = grown_none w.scope.path w.sites []
    check_layer (Assign p targets sources) w = targets_see system targets (map (value system w.scope) sources) w
    check_layer (If p arms o) w = arms_see system (arms_of (left (If p arms o))) (arms_of (right (If p arms o))) (else_of (left (If p arms o))) (else_of (right (If p arms o))) (if_arms p arms o) (if_else p arms o) w
    check_layer (Case p arms o) w = arms_see system (arms_of (left (Case p arms o))) (arms_of (right (Case p arms o))) (else_of (left (Case p arms o))) (else_of (right (Case p arms o))) (case_arms p arms o) (case_else p arms o) w
    check_layer (For p x type from to block) w = loop_sees x.name (turn_type from) _ _ (list_see block) (turns from to) w
    check_layer (Call p targets f arguments) w =
        call_seen system targets f.name w (call system (run system) p targets f.name arguments (running w)) _ (call_stays system (run system) inside lists p targets f.name arguments (running w))
    check_layer (Next p i) w = instance_sees blocks inside sees (w.scope.path ++ i.name ∷ []) (module_at system (w.scope.path ++ i.name ∷ [])) w

pub check_sees : (system : System) (blocks : Blocks) (inside : List Stmt → Sites) → ((code : List Stmt) → Sees (inside code) (blocks code)) → ((code : List Stmt) → Stays (inside code) (run system code)) → (s : Stmt) →
    Sees (fold-Stmt Sites (sites_form system inside) s) (check_statement system blocks s)
unfolding check_statement
check_sees system blocks inside sees lists =
    ind-Stmt (λ s. Sees (fold-Stmt Sites (sites_form system inside) s) (fold-Stmt Constraint (check_form system blocks) s))
    (λ x y is.
    let F = fold-Stmt Sites (sites_form system inside) in
    let G = fold-Stmt Constraint (check_form system blocks) in
    let way = check_layer (λ e. e.0) F G (λ e. e.1) system blocks inside sees lists y in
    let way' = subst (λ z. Sees (sites_form system inside (map-Stmt Stmt Sites F z)) (check_form system blocks (map-Stmt Stmt Constraint G z))) is way in
    let left' = subst (λ S. Sees S (check_form system blocks (map-Stmt Stmt Constraint G x))) (sym (fold-roll-Stmt Sites (sites_form system inside) x)) way' in
    subst (λ X. Sees (F (roll-Stmt x)) X) (sym (fold-roll-Stmt Constraint (check_form system blocks) x)) left')

code_see : (F : Stmt → Sites) (G : Stmt → Constraint) → ((s : Stmt) → Sees (F s) (G s)) → (code : List Stmt) → AllSee (map F code) (map G code)
code_see F G all [] = tt
code_see F G all (s ∷ code) = (all s, code_see F G all code)

pub check_by_sees : (system : System) (blocks : Blocks) (inside : List Stmt → Sites) → ((code : List Stmt) → Sees (inside code) (blocks code)) → ((code : List Stmt) → Stays (inside code) (run system code)) → (code : List Stmt) →
    Sees (sites_by system inside code) (check_by system blocks code)
unfolding check_by sites_by
check_by_sees system blocks inside sees lists code w =
    let F = fold-Stmt Sites (sites_form system inside) in
    holds_more w.scope.path w.sites (all_sites (map F code) w.scope.path) _ (check_by system blocks code w)
    (λ s h. among_mapped F (λ p. p w.scope.path) s code h)
    (each_sees (map F code) (map (check_statement system blocks) code) (code_see F (check_statement system blocks) (check_sees system blocks inside sees lists) code) w)

-- code that is run inside a block, where enough calls are left
runs_inside : (m : ℕ) (system : System) → longest_chain < m → (code : List Stmt) → Stays (sites_through m system code) (run system code)
runs_inside zero system more code r = absurd (omega arith)
runs_inside (suc m) system more code r = run_lists_through m system (omega arith) code r

-- instances inside each other, and then calls
pub check_through_sees : (n m : ℕ) (system : System) → n + longest_chain < m → (code : List Stmt) → Sees (sites_through m system code) (check_through n system code)
unfolding check_through sites_through
check_through_sees zero m system more code w = tt
check_through_sees (suc n) zero system more code w = absurd (omega arith)
check_through_sees (suc n) (suc m) system more code w =
    check_by_sees system (check_through n system) (sites_through m system) (check_through_sees n m system (omega arith)) (runs_inside m system (omega arith)) code w

pub check_sees_through : (m : ℕ) (system : System) → longest_chain + longest_chain < m → (code : List Stmt) → Sees (sites_through (suc m) system code) (check system code)
unfolding sites_through
check_sees_through m system more code w =
    check_by_sees system (check_through longest_chain system) (sites_through m system) (check_through_sees longest_chain m system more) (runs_inside m system (omega arith)) code w

-- what a block lists is among its sites
pub block_lists : (system : System) (code : List Stmt) → Sees (sites_in system code) (check system code)
unfolding sites_in
block_lists system code = check_sees_through (longest_chain + longest_chain + 1) system (omega arith) code

-- what code lists is among its sites
pub code_lists : (system : System) (code : List Stmt) → Stays (sites_in system code) (run system code)
unfolding sites_in
code_lists system code = run_lists_through (longest_chain + longest_chain + 1) system (omega arith) code
