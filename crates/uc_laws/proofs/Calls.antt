-- What a call lists: its own sites, and those of the body.
use Rattle.std.proofs.Common.{◌≡◌, List, [], ◌∷◌, ◌++◌, map, Option, Some, None, refl, ◌∙◌, ◌⊎◌, inl, inr, ℕ, Bool, true, false, ◌+◌}
use Rattle.std.specs.Prelude.{if◌then◌else◌}
use Rattle.std.specs.Option.{option_and_then}
use Rattle.std.specs.List.{list_any}
use Rattle.uc_lexer.specs.declared.place.Place.{Place}
use Rattle.uc_syntax.specs.declared.type_expression.TypeExpr.{TypeExpr}
use Rattle.uc_syntax.specs.declared.expression.Expr.{Expr}
use Rattle.uc_syntax.specs.declared.statement.Target.{Target}
use Rattle.uc_syntax.specs.declared.statement.Stmt.{Stmt}
use Rattle.uc_syntax.specs.declared.declaration.Procedure.{Procedure}
use Rattle.uc_syntax.specs.declared.declaration.Module.{Module}
use Rattle.uc_values.specs.declared.ty.Ty.{Ty}
use Rattle.uc_values.specs.declared.value.Value.{Value}
use Rattle.uc_values.specs.Values.{fits}
use Rattle.uc_meaning.specs.declared.scope.Scope.{Scope}
use Rattle.uc_meaning.specs.declared.scope.Local.{Local}
use Rattle.uc_meaning.specs.declared.scope.Site.{Site}
use Rattle.uc_meaning.specs.Lookup.{System, module_at, procedure_of}
use Rattle.uc_meaning.specs.Types.{type_of_written}
use Rattle.uc_meaning.specs.Code.{Running, Unfit, Execution, Bodies, in_scope, push_local, same_site, list_site, site_unless, take_choice, choose, declare, set_found, set_name, write, write_all, replaced, name_now, requires_of, judge_requires, names_with_types, results, call_in, call_at, call}
use Rattle.uc_meaning.specs.Expressions.{is_true, bind, value, local_of}
use Rattle.uc_meaning.specs.Lines.{Sites, site_at, requires_sites, call_sites}
use Rattle.uc_laws.proofs.Among.{Among, among_left, among_right, among_split}
use Rattle.uc_laws.proofs.Grows.{Grown, grown_none, grown_more, grown_then, Within, Stays, stays_at, within_more, within_after, within_then, within_closed}

only_new : (s a : Site) (xs : List Site) → Among s xs ⊎ Among s (a ∷ []) → Among s xs ⊎ Among s (a ∷ [])
only_new s a xs h = h

-- a site that is listed
listed_if : (b : Bool) (s a : Site) (xs : List Site) → Among s (if b then xs else xs ++ a ∷ []) → Among s xs ⊎ Among s (a ∷ [])
listed_if true s a xs h = inl h
listed_if false s a xs h = among_split s xs (a ∷ []) h

pub site_listed : (s a : Site) (xs : List Site) → Among s (list_site xs a) → Among s xs ⊎ Among s (a ∷ [])
site_listed s a xs h = listed_if (list_any (same_site a) xs) s a xs h

pub unless_grown : (b : Bool) (place : Place) (n : ℕ) (r : Running) → Grown r.scope.path r.sites (site_at r.scope.path place n ∷ []) (site_unless b place n r).scope.path (site_unless b place n r).sites
unless_grown true place n r = grown_none r.scope.path r.sites (site_at r.scope.path place n ∷ [])
unless_grown false place n r = record { path = refl; listed = λ s h. site_listed s (site_at r.scope.path place n) r.sites h }

judged_at : (system : System) (place : Place) (n : ℕ) (es : List Expr) (r : Running) (b : Bool) →
    ((r' : Running) → Grown r'.scope.path r'.sites (requires_sites r'.scope.path place (n + 1) es) (judge_requires system place (n + 1) es r').scope.path (judge_requires system place (n + 1) es r').sites) →
    Grown r.scope.path r.sites (site_at r.scope.path place n ∷ requires_sites r.scope.path place (n + 1) es) (judge_requires system place (n + 1) es (site_unless b place n r)).scope.path (judge_requires system place (n + 1) es (site_unless b place n r)).sites
judged_at system place n es r true others = grown_more _ _ (requires_sites r.scope.path place (n + 1) es) _ _ _ (λ s h. inr h) (others r)
judged_at system place n es r false others =
    let p = r.scope.path in
    let rest = requires_sites p place (n + 1) es in
    let r' = site_unless false place n r in
    grown_then p r.sites (site_at p place n ∷ rest) p r'.sites _ _
    (grown_more p r.sites (site_at p place n ∷ []) (site_at p place n ∷ rest) p r'.sites (λ s h. among_left s (site_at p place n ∷ []) rest h) (unless_grown false place n r))
    (grown_more p r'.sites rest (site_at p place n ∷ rest) _ _ (λ s h. inr h) (others r'))

pub judged : (system : System) (place : Place) (n : ℕ) (es : List Expr) (r : Running) →
    Grown r.scope.path r.sites (requires_sites r.scope.path place n es) (judge_requires system place n es r).scope.path (judge_requires system place n es r).sites
unfolding judge_requires requires_sites
judged system place n [] r = grown_none r.scope.path r.sites []
judged system place n (e ∷ es) r = judged_at system place n es r (is_true system r.scope e) (λ r'. judged system place (n + 1) es r')

choice_stays : (t : Ty) (go : Value → Execution) (sites : Sites) → ((v : Value) → Stays sites (go v)) → (left : List Value) (r : Running) → Within r.scope.path r.sites (sites r.scope.path) (take_choice t go left r)
choice_stays t go sites goes [] r = tt
choice_stays t go sites goes (v ∷ rest) r = fit_stays (fits t v)
  where
    fit_stays : (b : Bool) → Within r.scope.path r.sites (sites r.scope.path) (if b then go v (record r { left = rest }) else Unfit (v ∷ rest))
    fit_stays true = goes v (record r { left = rest })
    fit_stays false = tt

pub choose_stays : (t : Ty) (go : Value → Execution) (sites : Sites) → ((v : Value) → Stays sites (go v)) → Stays sites (choose t go)
choose_stays t go sites goes r = choice_stays t go sites goes r.left r

pub declare_stays : (system : System) (m : Module) (ds : List (ℕ × TypeExpr)) (sites : Sites) → Stays sites (declare system m ds)
unfolding declare
declare_stays system m [] sites r = grown_none r.scope.path r.sites (sites r.scope.path)
declare_stays system m (d ∷ ds) sites r =
    choose_stays (type_of_written system m d.1) (λ v r'. declare system m ds (push_local d.0 (type_of_written system m d.1) v r')) sites
    (λ v r'. declare_stays system m ds sites (push_local d.0 (type_of_written system m d.1) v r')) r

found_path : (system : System) (s : Scope) (x : ℕ) (v : Value) (l : Option Local) → (set_found system s x v l).path ≡ s.path
found_path system s x v (Some l) = refl
found_path system s x v None = refl

pub set_path : (system : System) (s : Scope) (x : ℕ) (v : Value) → (set_name system s x v).path ≡ s.path
unfolding set_name
set_path system s x v = found_path system s x v (local_of s x)

pub write_path : (system : System) (s : Scope) (t : Target) (v : Value) → (write system s t v).path ≡ s.path
unfolding write
write_path system s t v = set_path system s t.name (replaced system s (name_now system s t.name) t.parts v)

pub writes_path : (system : System) (ts : List Target) (vs : List Value) (s : Scope) → (write_all system ts vs s).path ≡ s.path
unfolding write_all
writes_path system [] vs s = refl
writes_path system (t ∷ ts) [] s = refl
writes_path system (t ∷ ts) (v ∷ vs) s = writes_path system ts vs (write system s t v) ∙ write_path system s t v

call_in_stays : (system : System) (bodies : Bodies) (inside : List Stmt → Sites) → ((code : List Stmt) → Stays (inside code) (bodies code)) →
    (place : Place) (targets : List Target) (arguments : List Expr) (m : Module) (p : Option Procedure) →
    Stays (λ path. call_sites inside path place p) (call_in system bodies place targets arguments m p)
call_in_stays system bodies inside lists place targets arguments m None r = tt
call_in_stays system bodies inside lists place targets arguments m (Some p) r =
    let path = r.scope.path in
    let own = requires_sites path place 1 (requires_of p) in
    let all = own ++ inside p.body path in
    let begin = in_scope r (record r.scope { locals = bind system m p.parameters (map (value system r.scope) arguments) [] }) in
    let entry = judge_requires system place 1 (requires_of p) begin in
    let g : Grown path r.sites own entry.scope.path entry.sites = judged system place 1 (requires_of p) begin in
    within_then path r.sites all (declare system m (names_with_types p.results) entry) _
    (within_after path r.sites all path entry.sites (declare system m (names_with_types p.results) entry)
    (grown_more path r.sites own all path entry.sites (λ s h. among_left s own (inside p.body path) h) (record { path = refl; listed = g.listed }))
    (stays_at (λ q. all) (declare system m (names_with_types p.results)) (declare_stays system m (names_with_types p.results) (λ q. all)) entry path g.path))
    (λ r' e. within_closed path r'.sites all (bodies p.body r') (λ r''. in_scope r'' (write_all system targets (results system r''.scope p.results) (record r.scope { before = r''.scope.before })))
    (λ r''. writes_path system targets (results system r''.scope p.results) (record r.scope { before = r''.scope.before }))
    (λ r''. refl)
    (within_more path r'.sites (inside p.body path) all (bodies p.body r') (λ s h. among_right s own (inside p.body path) h) (stays_at (inside p.body) (bodies p.body) (lists p.body) r' path e)))

call_at_stays : (system : System) (bodies : Bodies) (inside : List Stmt → Sites) → ((code : List Stmt) → Stays (inside code) (bodies code)) →
    (place : Place) (targets : List Target) (f : ℕ) (arguments : List Expr) (m : Option Module) →
    Stays (λ path. call_sites inside path place (option_and_then (λ m'. procedure_of m' f) m)) (call_at system bodies place targets f arguments m)
call_at_stays system bodies inside lists place targets f arguments None r = tt
call_at_stays system bodies inside lists place targets f arguments (Some m) r = call_in_stays system bodies inside lists place targets arguments m (procedure_of m f) r

pub call_stays : (system : System) (bodies : Bodies) (inside : List Stmt → Sites) → ((code : List Stmt) → Stays (inside code) (bodies code)) →
    (place : Place) (targets : List Target) (f : ℕ) (arguments : List Expr) →
    Stays (λ path. call_sites inside path place (option_and_then (λ m. procedure_of m f) (module_at system path))) (call system bodies place targets f arguments)
unfolding call
call_stays system bodies inside lists place targets f arguments r = call_at_stays system bodies inside lists place targets f arguments (module_at system r.scope.path) r
