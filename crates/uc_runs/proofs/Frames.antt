-- Code leaves a scope as it is but for its old state and its locals, of which none goes.
use Rattle.std.proofs.Common.{◌≡◌, ℕ, zero, suc, ◌+◌, ◌-◌, min, Bool, true, false, List, [], ◌∷◌, map, length, drop, Option, Some, None, refl, ap, ◌∙◌, sym, subst, arith, length-drop}
use Rattle.std.specs.Prelude.{if◌then◌else◌, nat_eq, IsTrue, ◌||◌}
use Rattle.std.specs.List.{list_any}
use Rattle.std.proofs.lemmas.Bool.Decides.{nat_tests}
use Rattle.std.proofs.lemmas.List.{drop_all, drop_min, drop-map, length-map}
use Rattle.uc_lexer.specs.declared.place.Place.{Place}
use Rattle.uc_syntax.specs.declared.place.Identifier.{Identifier}
use Rattle.uc_syntax.specs.declared.type_expression.TypeExpr.{TypeExpr}
use Rattle.uc_syntax.specs.declared.expression.Expr.{Expr}
use Rattle.uc_syntax.specs.declared.statement.Arm.{Arm}
use Rattle.uc_syntax.specs.declared.statement.Target.{Target}
use Rattle.uc_syntax.specs.declared.statement.Stmt.{Stmt}
use Rattle.uc_syntax.specs.declared.statement.Stmt.TheOpen.{Stmt-F}
use Rattle.uc_syntax.specs.declared.statement.Stmt.TheOpen.Stmt-F.{Local as Declare, Skip, Block, Assert, Assume, Havoc, Assign, If, Case, For, Call, Next}
use Rattle.uc_syntax.specs.declared.statement.Stmt.TheFolds.{fold-Stmt, map-Stmt, fold-roll-Stmt, ind-Stmt}
use Rattle.uc_syntax.specs.declared.declaration.Procedure.{Procedure}
use Rattle.uc_syntax.specs.declared.declaration.Module.{Module}
use Rattle.uc_values.specs.declared.ty.Ty.{Ty}
use Rattle.uc_values.specs.declared.value.Value.{Value}
use Rattle.uc_values.specs.Values.{fits}
use Rattle.uc_meaning.specs.declared.scope.Scope.{Scope}
use Rattle.uc_meaning.specs.declared.scope.Local.{Local}
use Rattle.uc_meaning.specs.declared.scope.State.{State}
use Rattle.uc_meaning.specs.Lookup.{System, module_at, procedure_of}
use Rattle.uc_meaning.specs.Types.{type_of_written}
use Rattle.uc_meaning.specs.Expressions.{is_true, local_of}
use Rattle.uc_meaning.specs.Code.{Running, Execution, Ending, Goes, Stopped, Unfit, Bodies, then_run, run_each, run_block, run_form, run_statement, run_by, run_through, run_turns, in_scope, keep_locals, push_local, site_unless, take_choice, declare, declare_at, name_now, set_local, set_found, set_name, write, write_all, taken, call, call_at, call_in, judge_requires, names_with_types, results, turns, turn_type}
use Rattle.uc_runs.proofs.Layers.{arms_in, else_in}

abbrev pub names_of : Scope → List ℕ
names_of s = map (λ l. l.name) s.locals

-- the second scope is the first but for its old state and its locals, which are those of the first by name, and newer ones
pub record IsIn (s t : Scope) : Type 0 where
  pub frame : t ≡ record s { before = t.before; locals = t.locals }
  pub newer : ℕ
  pub names : drop newer (names_of t) ≡ names_of s

drops : {A : Type 0} (a b : ℕ) (xs : List A) → drop a (drop b xs) ≡ drop (a + b) xs
drops a zero xs = let same : a + 0 ≡ a = omega arith in ap (λ n. drop n xs) (sym same)
drops a (suc b) [] = drop_all a [] (omega arith) ∙ sym (drop_all (a + suc b) [] (omega arith))
drops a (suc b) (x ∷ xs) = let next : a + suc b ≡ suc (a + b) = omega arith in drops a b xs ∙ ap (λ n. drop n (x ∷ xs)) (sym next)

in_both : (s t u : Scope) → IsIn s t → IsIn t u → IsIn s u
in_both s t u first second = record {
  frame = second.frame ∙ ap within first.frame;
  newer = first.newer + second.newer;
  names = sym (drops first.newer second.newer (names_of u)) ∙ ap (drop first.newer) second.names ∙ first.names;
}
  where
    within : Scope → Scope
    within x = record x { before = u.before; locals = u.locals }

-- a scope in which nothing but the old state is other
with_before : (s : Scope) (state : State) → IsIn s (record s { before = state })
with_before s state = record { frame = refl; newer = 0; names = refl }

is_self : (s : Scope) → IsIn s s
is_self s = record { frame = refl; newer = 0; names = refl }

-- the locals that are older than a block are those that were there
kept_in : (s t : Scope) → IsIn s t → IsIn s (keep_locals (length s.locals) t)
kept_in s t inside = record {
  frame = ap again inside.frame;
  newer = 0;
  names =
      sym (drop-map (λ l. l.name) (length t.locals - length s.locals) t.locals)
      ∙ ap (λ n. drop n (names_of t)) ended
      ∙ drop_min inside.newer (names_of t)
      ∙ inside.names;
}
  where
    again : Scope → Scope
    again x = record x { locals = (keep_locals (length s.locals) t).locals }

    ended : length t.locals - length s.locals ≡ min inside.newer (length (names_of t))
    ended =
        let now : length (names_of t) ≡ length t.locals = length-map t.locals (λ l. l.name) in
        let before : length (names_of s) ≡ length s.locals = length-map s.locals (λ l. l.name) in
        let left : length (names_of t) - inside.newer ≡ length (names_of s) = sym (length-drop inside.newer (names_of t)) ∙ ap length inside.names in
        omega (arith, now, before, left)

abbrev pub EndsIn : Scope → Ending → Type 0
EndsIn s (Goes r) = IsIn s r.scope
EndsIn s Stopped = Unit {0}
EndsIn s (Unfit left) = Unit {0}

abbrev pub Stays : Execution → Type 0
Stays x = (r : Running) → EndsIn r.scope (x r)

ends_from : (s t : Scope) (e : Ending) → IsIn s t → EndsIn t e → EndsIn s e
ends_from s t (Goes r) first second = in_both s t r.scope first second
ends_from s t Stopped first second = tt
ends_from s t (Unfit left) first second = tt

pub ends_then : (s : Scope) (e : Ending) (next : Execution) → EndsIn s e → Stays next → EndsIn s (then_run e next)
ends_then s (Goes r) next first stays = ends_from s r.scope (next r) first (stays r)
ends_then s Stopped next first stays = tt
ends_then s (Unfit left) next first stays = tt

-- the locals of a block end with it
ends_kept : (s : Scope) (e : Ending) (next : Execution) → EndsIn s e → Stays next → EndsIn s (then_run e (λ r. next (in_scope r (keep_locals (length s.locals) r.scope))))
ends_kept s (Goes r) next first stays =
    ends_from s (keep_locals (length s.locals) r.scope) (next (in_scope r (keep_locals (length s.locals) r.scope))) (kept_in s r.scope first) (stays (in_scope r (keep_locals (length s.locals) r.scope)))
ends_kept s Stopped next first stays = tt
ends_kept s (Unfit left) next first stays = tt

ends_so : (s : Scope) (e : Ending) (next : Execution) → ((r : Running) → EndsIn s (next r)) → EndsIn s (then_run e next)
ends_so s (Goes r) next each = each r
ends_so s Stopped next each = tt
ends_so s (Unfit left) next each = tt

-- ---- writes

names_again : (ls : List Local) (x : ℕ) (v : Value) → map (λ l. l.name) (set_local ls x v) ≡ map (λ l. l.name) ls
unfolding set_local
names_again [] x v = refl
names_again (l ∷ ls) x v = by (nat_eq l.name x) (names_again ls x v)
  where
    by : (b : Bool) → map (λ k. k.name) (set_local ls x v) ≡ map (λ k. k.name) ls → map (λ k. k.name) (if b then record l { value = v } ∷ ls else l ∷ set_local ls x v) ≡ map (λ k. k.name) (l ∷ ls)
    by true rest = refl
    by false rest = ap (λ ns. l.name ∷ ns) rest

found_in : (system : System) (s : Scope) (x : ℕ) (v : Value) (o : Option Local) → IsIn s (set_found system s x v o)
found_in system s x v None = record { frame = refl; newer = 0; names = refl }
found_in system s x v (Some l) = record { frame = refl; newer = 0; names = names_again s.locals x v }

set_in : (system : System) (s : Scope) (x : ℕ) (v : Value) → IsIn s (set_name system s x v)
unfolding set_name
set_in system s x v = found_in system s x v (local_of s x)

write_in : (system : System) (s : Scope) (t : Target) (v : Value) → IsIn s (write system s t v)
unfolding write
write_in system s t v = set_in system s t.name _

write_all_in : (system : System) (ts : List Target) (vs : List Value) (s : Scope) → IsIn s (write_all system ts vs s)
unfolding write_all
write_all_in system [] vs s = is_self s
write_all_in system (t ∷ ts) [] s = is_self s
write_all_in system (t ∷ ts) (v ∷ vs) s = in_both s (write system s t v) (write_all system ts vs (write system s t v)) (write_in system s t v) (write_all_in system ts vs (write system s t v))

-- ---- choices

pushed_in : (x : ℕ) (t : Ty) (v : Value) (r : Running) → IsIn r.scope (push_local x t v r).scope
pushed_in x t v r = record { frame = refl; newer = 1; names = refl }

take_stays : (t : Ty) (go : Value → Execution) → ((v : Value) → Stays (go v)) → (left : List Value) (r : Running) → EndsIn r.scope (take_choice t go left r)
take_stays t go each [] r = tt
take_stays t go each (v ∷ rest) r = by (fits t v)
  where
    by : (b : Bool) → EndsIn r.scope (if b then go v (record r { left = rest }) else Unfit (v ∷ rest))
    by true = each v (record r { left = rest })
    by false = tt

declare_stays : (system : System) (m : Module) (ds : List (ℕ × TypeExpr)) → Stays (declare system m ds)
unfolding declare
declare_stays system m [] r = is_self r.scope
declare_stays system m (d ∷ ds) r =
    take_stays (type_of_written system m d.1) (λ v r'. declare system m ds (push_local d.0 (type_of_written system m d.1) v r'))
    (λ v r'. ends_from r'.scope (push_local d.0 (type_of_written system m d.1) v r').scope (declare system m ds (push_local d.0 (type_of_written system m d.1) v r')) (pushed_in d.0 (type_of_written system m d.1) v r') (declare_stays system m ds (push_local d.0 (type_of_written system m d.1) v r')))
    r.left r

declare_at_stays : (system : System) (o : Option Module) (names : List Identifier) (type : TypeExpr) → Stays (declare_at system o names type)
declare_at_stays system None names type r = tt
declare_at_stays system (Some m) names type r = declare_stays system m (map (λ i. (i.name, type)) names) r

-- ---- sites

site_scope : (b : Bool) (place : Place) (n : ℕ) (r : Running) → (site_unless b place n r).scope ≡ r.scope
site_scope true place n r = refl
site_scope false place n r = refl

judge_scope : (system : System) (place : Place) (n : ℕ) (es : List Expr) (r : Running) → (judge_requires system place n es r).scope ≡ r.scope
unfolding judge_requires
judge_scope system place n [] r = refl
judge_scope system place n (e ∷ es) r =
    judge_scope system place (n + 1) es (site_unless (is_true system r.scope e) place n r) ∙ site_scope (is_true system r.scope e) place n r

-- ---- blocks and turns

block_stays : (xs : List Execution) → Stays (run_each xs) → Stays (run_block xs)
block_stays xs each r = ends_kept r.scope (run_each xs r) (λ r'. Goes r') (each r) (λ r'. is_self r'.scope)

turns_stay : (x : ℕ) (t : Ty) (xs : List Execution) → Stays (run_each xs) → (vs : List Value) → Stays (run_turns x t xs vs)
unfolding run_turns
turns_stay x t xs each [] r = is_self r.scope
turns_stay x t xs each (v ∷ vs) r =
    ends_kept r.scope (run_each xs (push_local x t v r)) (run_turns x t xs vs)
    (ends_from r.scope (push_local x t v r).scope (run_each xs (push_local x t v r)) (pushed_in x t v r) (each (push_local x t v r)))
    (turns_stay x t xs each vs)

-- ---- calls

module _ (system : System) (bodies : Bodies) (place : Place) (targets : List Target) (f : ℕ) (arguments : List Expr) where
  call_in_stays : (m : Module) (o : Option Procedure) → Stays (call_in system bodies place targets arguments m o)
  call_in_stays m None r = tt
  call_in_stays m (Some p) r =
      ends_so r.scope (declare system m (names_with_types p.results) _) _
      (λ r'. ends_so r.scope (bodies p.body r') _
      (λ r''. in_both r.scope (record r.scope { before = r''.scope.before }) (write_all system targets (results system r''.scope p.results) (record r.scope { before = r''.scope.before })) (with_before r.scope r''.scope.before)
      (write_all_in system targets (results system r''.scope p.results) (record r.scope { before = r''.scope.before }))))

  call_at_stays : (o : Option Module) → Stays (call_at system bodies place targets f arguments o)
  call_at_stays None r = tt
  call_at_stays (Some m) r = call_in_stays m (procedure_of m f) r

  call_stays : Stays (call system bodies place targets f arguments)
  unfolding call
  call_stays r = call_at_stays (module_at system r.scope.path) r

-- ---- statements, by the executions of the statements inside them

module _ (system : System) (bodies : Bodies) {D : Type 0} (code : D → Stmt) (g : Stmt → Execution) (stays : (d : D) → Stays (g (code d))) where
  abbrev layer : Stmt-F D → Stmt-F Execution
  layer y = map-Stmt Stmt Execution g (map-Stmt D Stmt code y)

  each_stays : (es : List D) → Stays (run_each (map g (map code es)))
  unfolding run_each
  each_stays [] r = is_self r.scope
  each_stays (e ∷ es) r = ends_then r.scope (g (code e) r) (run_each (map g (map code es))) (stays e r) (each_stays es)

  taken_so : (b : Bool) (es : List D) (others : List Execution) → Stays (run_each others) → Stays (run_each (if b then map g (map code es) else others))
  taken_so true es others rest = each_stays es
  taken_so false es others rest = rest

  if_stays : (s : Scope) (p : Place) (arms : List (Arm D)) (z : Option (List D)) → Stays (run_each (taken system s (arms_in (layer (If p arms z))) (else_in (layer (If p arms z)))))
  unfolding taken
  if_stays s p [] None = each_stays []
  if_stays s p [] (Some es) = each_stays es
  if_stays s p (a ∷ arms) z = taken_so (is_true system s a.condition) a.body (taken system s (arms_in (layer (If p arms z))) (else_in (layer (If p arms z)))) (if_stays s p arms z)

  case_stays : (s : Scope) (p : Place) (arms : List (Arm D)) (z : Option (List D)) → Stays (run_each (taken system s (arms_in (layer (Case p arms z))) (else_in (layer (Case p arms z)))))
  unfolding taken
  case_stays s p [] None = each_stays []
  case_stays s p [] (Some es) = each_stays es
  case_stays s p (a ∷ arms) z = taken_so (is_true system s a.condition) a.body (taken system s (arms_in (layer (Case p arms z))) (else_in (layer (Case p arms z)))) (case_stays s p arms z)

  assume_stays : (b : Bool) (r : Running) → EndsIn r.scope (if b then Goes r else Stopped)
  assume_stays true r = is_self r.scope
  assume_stays false r = tt

  form_stays : (y : Stmt-F D) → Stays (run_form system bodies (layer y))
  form_stays (Declare p names type) r = declare_at_stays system (module_at system r.scope.path) names type r
  form_stays (Skip p) r = is_self r.scope
  form_stays (Block p es) r = block_stays (map g (map code es)) (each_stays es) r
  form_stays (Assert p label e) r = subst (IsIn r.scope) (sym (site_scope (is_true system r.scope e) p 0 r)) (is_self r.scope)
  form_stays (Assume p e) r = assume_stays (is_true system r.scope e) r
  form_stays (Havoc p x primed) r =
      take_stays (name_now system r.scope x.name).type (λ v r'. Goes (in_scope r' (set_name system r'.scope x.name v))) (λ v r'. set_in system r'.scope x.name v) r.left r
  form_stays (Assign p targets sources) r = write_all_in system targets _ r.scope
  form_stays (If p arms z) r = block_stays _ (if_stays r.scope p arms z) r
  form_stays (Case p arms z) r = block_stays _ (case_stays r.scope p arms z) r
  form_stays (For p x type from to es) r = turns_stay x.name (turn_type from) (map g (map code es)) (each_stays es) (turns from to) r
  form_stays (Call p targets f arguments) r = call_stays system bodies p targets f.name arguments r
  form_stays (Next p i) r = tt

pub statement_stays : (system : System) (bodies : Bodies) (s : Stmt) → Stays (run_statement system bodies s)
unfolding run_statement
statement_stays system bodies =
    ind-Stmt (λ s. Stays (fold-Stmt Execution (run_form system bodies) s))
    (λ x y is.
    let G = fold-Stmt Execution (run_form system bodies) in
    subst Stays (sym (fold-roll-Stmt Execution (run_form system bodies) x))
    (subst (λ z. Stays (run_form system bodies (map-Stmt Stmt Execution G z))) is (form_stays system bodies (λ e. e.0) G (λ e. e.1) y)))

code_stays : (system : System) (bodies : Bodies) (code : List Stmt) → Stays (run_by system bodies code)
unfolding run_by run_each
code_stays system bodies [] r = is_self r.scope
code_stays system bodies (s ∷ code) r = ends_then r.scope (run_statement system bodies s r) (run_by system bodies code) (statement_stays system bodies s r) (code_stays system bodies code)

pub body_stays : (n : ℕ) (system : System) (code : List Stmt) → Stays (run_through n system code)
unfolding run_through
body_stays zero system code r = tt
body_stays (suc n) system code r = code_stays system (run_through n system) code r

-- a call comes to its body, and to the end of it, in the scope that it has begun in
pub begun_in : (system : System) (m : Module) (ds : List (ℕ × TypeExpr)) (place : Place) (es : List Expr) (r : Running) → EndsIn r.scope (declare system m ds (judge_requires system place 1 es r))
begun_in system m ds place es r =
    subst (λ s. EndsIn s (declare system m ds (judge_requires system place 1 es r))) (judge_scope system place 1 es r) (declare_stays system m ds (judge_requires system place 1 es r))

pub gone_in : (s : Scope) (e : Ending) (r : Running) → e ≡ Goes r → EndsIn s e → IsIn s r.scope
gone_in s e r is ends = subst (EndsIn s) is ends

-- ---- names that are locals

abbrev pub IsLocal : ℕ → Scope → Type 0
IsLocal x s = IsTrue (list_any (λ n. nat_eq n x) (names_of s))

among_more : (n : ℕ) (xs : List ℕ) (x : ℕ) → IsTrue (list_any (λ k. nat_eq k x) (drop n xs)) → IsTrue (list_any (λ k. nat_eq k x) xs)
among_more zero xs x there = there
among_more (suc n) [] x there = there
among_more (suc n) (y ∷ ys) x there = by (nat_eq y x) (among_more n ys x there)
  where
    by : (b : Bool) → IsTrue (list_any (λ k. nat_eq k x) ys) → IsTrue (b || list_any (λ k. nat_eq k x) ys)
    by true rest = refl
    by false rest = rest

pub local_stays : (s t : Scope) (x : ℕ) → IsIn s t → IsLocal x s → IsLocal x t
local_stays s t x inside there = among_more inside.newer (names_of t) x (subst (λ ns. IsTrue (list_any (λ k. nat_eq k x) ns)) (sym inside.names) there)

unfoldable pub AllLocal : List ℕ → Scope → Type 0
AllLocal [] s = Unit {0}
AllLocal (x ∷ xs) s = IsLocal x s × AllLocal xs s

all_stay : (s t : Scope) (xs : List ℕ) → IsIn s t → AllLocal xs s → AllLocal xs t
unfolding AllLocal
all_stay s t [] inside there = tt
all_stay s t (x ∷ xs) inside there = (local_stays s t x inside there.0, all_stay s t xs inside there.1)

abbrev pub EndsLocal : List ℕ → Ending → Type 0
EndsLocal xs (Goes r) = AllLocal xs r.scope
EndsLocal xs Stopped = Unit {0}
EndsLocal xs (Unfit left) = Unit {0}

local_ends : (xs : List ℕ) (s : Scope) (e : Ending) → AllLocal xs s → EndsIn s e → EndsLocal xs e
local_ends xs s (Goes r) there inside = all_stay s r.scope xs inside there
local_ends xs s Stopped there inside = tt
local_ends xs s (Unfit left) there inside = tt

pub ends_local_then : (xs : List ℕ) (e : Ending) (next : Execution) → EndsLocal xs e → Stays next → EndsLocal xs (then_run e next)
ends_local_then xs (Goes r) next there stays = local_ends xs r.scope (next r) there (stays r)
ends_local_then xs Stopped next there stays = tt
ends_local_then xs (Unfit left) next there stays = tt

same_name : (x : ℕ) → nat_eq x x ≡ true
same_name x = grind (arith, nat_tests)

-- the names that are declared are locals
module _ (system : System) (m : Module) (d : ℕ × TypeExpr) (ds : List (ℕ × TypeExpr)) (r : Running) where
  abbrev pushed : Value → List Value → Running
  pushed v rest = push_local d.0 (type_of_written system m d.1) v (record r { left = rest })

  one_more : (e : Ending) (s : Scope) → IsLocal d.0 s → EndsIn s e → EndsLocal (map (λ d. d.0) ds) e → EndsLocal (d.0 ∷ map (λ d. d.0) ds) e
  unfolding AllLocal
  one_more (Goes q) s there inside others = (local_stays s q.scope d.0 inside there, others)
  one_more Stopped s there inside others = tt
  one_more (Unfit left) s there inside others = tt

  declares_more : (others : (q : Running) → EndsLocal (map (λ d. d.0) ds) (declare system m ds q)) (left : List Value) →
      EndsLocal (d.0 ∷ map (λ d. d.0) ds) (take_choice (type_of_written system m d.1) (λ v r'. declare system m ds (push_local d.0 (type_of_written system m d.1) v r')) left r)
  declares_more others [] = tt
  declares_more others (v ∷ rest) = by (fits (type_of_written system m d.1) v)
    where
      by : (b : Bool) → EndsLocal (d.0 ∷ map (λ d. d.0) ds) (if b then declare system m ds (pushed v rest) else Unfit (v ∷ rest))
      by true =
          one_more (declare system m ds (pushed v rest)) (pushed v rest).scope (ap (λ b. b || list_any (λ n. nat_eq n d.0) (names_of r.scope)) (same_name d.0))
          (declare_stays system m ds (pushed v rest)) (others (pushed v rest))
      by false = tt

pub declares_locals : (system : System) (m : Module) (ds : List (ℕ × TypeExpr)) (r : Running) → EndsLocal (map (λ d. d.0) ds) (declare system m ds r)
unfolding declare AllLocal
declares_locals system m [] r = tt
declares_locals system m (d ∷ ds) r = declares_more system m d ds r (declares_locals system m ds) r.left

-- a name is one of the locals
pub has_name : (x : ℕ) (ls : List Local) → list_any (λ n. nat_eq n x) (map (λ l. l.name) ls) ≡ list_any (λ l. nat_eq l.name x) ls
has_name x [] = refl
has_name x (l ∷ ls) = ap (λ b. nat_eq l.name x || b) (has_name x ls)
