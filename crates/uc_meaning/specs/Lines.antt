-- The lines of a command, and the traces that refute a line.
use Rattle.std.specs.Prelude.{◌≡◌, ℕ, zero, suc, ◌+◌, ◌-◌, ◌<◌, Bool, true, false, ◌&&◌, ◌||◌, nat_eq, nat_lt, if◌then◌else◌, List, [], ◌∷◌, ◌++◌, map, slice_get, Option, Some, None, unwrap_or}
use Rattle.std.specs.Option.{option_map, option_and_then}
use Rattle.std.specs.List.{list_any, flat_map, filter_map, position_from, All}
use Rattle.uc_lexer.specs.declared.place.Place.{Place}
use Rattle.uc_syntax.specs.declared.expression.Expr.{Expr}
use Rattle.uc_syntax.specs.declared.statement.Arm.{Arm}
use Rattle.uc_syntax.specs.declared.statement.Stmt.{Stmt}
use Rattle.uc_syntax.specs.declared.statement.Stmt.TheOpen.{Stmt-F}
use Rattle.uc_syntax.specs.declared.statement.Stmt.TheOpen.Stmt-F.{Block, Assert, If, Case, For, Call, Next}
use Rattle.uc_syntax.specs.declared.statement.Stmt.TheFolds.{fold-Stmt}
use Rattle.uc_syntax.specs.declared.declaration.Decl.{Decl}
use Rattle.uc_syntax.specs.declared.declaration.Decl.TheVariants.{Procedure, Invariant, Hyperinvariant, Control}
use Rattle.uc_syntax.specs.declared.declaration.Procedure.{Procedure as ProcedureParts}
use Rattle.uc_syntax.specs.declared.declaration.Command.{Command}
use Rattle.uc_syntax.specs.declared.declaration.Command.TheVariants.{Run as RunCommand, Check}
use Rattle.uc_syntax.specs.declared.declaration.WrittenRun.{WrittenRun}
use Rattle.uc_syntax.specs.declared.declaration.WrittenRun.TheVariants.{Unroll, Induction, Verify}
use Rattle.uc_syntax.specs.declared.declaration.Module.{Module}
use Rattle.uc_values.specs.declared.value.Value.{Value}
use Rattle.uc_meaning.specs.declared.scope.Interp.{Interp}
use Rattle.uc_meaning.specs.declared.scope.State.{State}
use Rattle.uc_meaning.specs.declared.scope.Site.{Site}
use Rattle.uc_meaning.specs.declared.line.At.{At}
use Rattle.uc_meaning.specs.declared.line.At.TheVariants.{Exactly, Base, Step, Body}
use Rattle.uc_meaning.specs.declared.line.What.{What}
use Rattle.uc_meaning.specs.declared.line.What.TheVariants.{Formula, AtSite, Ensures}
use Rattle.uc_meaning.specs.declared.line.Line.{Line}
use Rattle.uc_meaning.specs.declared.line.Trace.{Trace}
use Rattle.uc_meaning.specs.Lookup.{System, init_of, next_of, module_at, main_module, procedure_of, invariant_in, hyperinvariant_in}
use Rattle.uc_meaning.specs.Cells.{longest_chain, as_list, same_path, InstanceAt, instances, IsState}
use Rattle.uc_meaning.specs.Expressions.{is_true}
use Rattle.uc_meaning.specs.Code.{Running, same_site, requires_of, turns}
use Rattle.uc_meaning.specs.Steps.{scope_of, main_next}
use Rattle.uc_meaning.specs.Runs.{Position, position_at, states_at, copies_scope, lists_site, ensures_of, IsAdmitted, IsRunListing, Continues, AreCopies, AreInStep, HyperaxiomsAt, IsExecution, exit_scope, of_arity}

-- The sites in code at a path: all branches count, and what is called or stepped.
abbrev pub Sites : Type 0
Sites = List ℕ → List Site

abbrev pub all_sites : List Sites → Sites
all_sites parts path = flat_map (λ p. p path) parts

abbrev pub arm_sites : List (Arm Sites) → Sites
arm_sites arms path = flat_map (λ a. all_sites a.body path) arms

abbrev pub else_sites : Option (List Sites) → Sites
else_sites None path = []
else_sites (Some block) path = all_sites block path

abbrev pub site_at : List ℕ → Place → ℕ → Site
site_at path place n = record { path = path; place = place; requires_ = n }

-- each `requires` is a site at the call, numbered from n
unfoldable pub requires_sites : List ℕ → Place → ℕ → List Expr → List Site
requires_sites path place n [] = []
requires_sites path place n (e ∷ es) = site_at path place n ∷ requires_sites path place (n + 1) es

abbrev pub call_sites : (List Stmt → Sites) → List ℕ → Place → Option ProcedureParts → List Site
call_sites inside path place None = []
call_sites inside path place (Some p) = requires_sites path place 1 (requires_of p) ++ inside p.body path

abbrev pub next_sites : (List Stmt → Sites) → List ℕ → Option Module → List Site
next_sites inside path None = []
next_sites inside path (Some m) = inside (next_of m) path

-- a loop with no turn has no sites
abbrev pub sites_if_turns : {A : Type 0} → List A → List Site → List Site
sites_if_turns [] sites = []
sites_if_turns (v ∷ vs) sites = sites

-- the sites of a statement: those of an assertion, of the `requires` and the body of what it calls, of the block that it steps, and of what is inside it
abbrev pub sites_form : System → (List Stmt → Sites) → Stmt-F Sites → Sites
sites_form system inside (Assert place label e) path = site_at path place 0 ∷ []
sites_form system inside (Block place block) path = all_sites block path
sites_form system inside (If place arms otherwise) path = arm_sites arms path ++ else_sites otherwise path
sites_form system inside (Case place arms otherwise) path = arm_sites arms path ++ else_sites otherwise path
sites_form system inside (For place x type from to block) path = sites_if_turns (turns from to) (all_sites block path)
sites_form system inside (Call place targets f arguments) path =
    call_sites inside path place (option_and_then (λ m. procedure_of m f.name) (module_at system path))
sites_form system inside (Next place i) path = next_sites inside (path ++ i.name ∷ []) (module_at system (path ++ i.name ∷ []))
sites_form system inside other path = []

unfoldable pub sites_by : System → (List Stmt → Sites) → List Stmt → Sites
sites_by system inside code path = flat_map (λ s. fold-Stmt Sites (sites_form system inside) s path) code

unfoldable pub sites_through : ℕ → System → List Stmt → Sites
sites_through zero system code path = []
sites_through (suc n) system code path = sites_by system (sites_through n system) code path

-- As deep as steps and calls go: a block and longest_chain instances inside each other, then a body and longest_chain calls inside each other. So the
-- blocks and bodies on one chain are two more than twice the longest chain.
unfoldable pub sites_in : System → List Stmt → Sites
sites_in system = sites_through (longest_chain + longest_chain + 2) system

-- Sites are ordered by path, main first and then depth first, and then by place and number.
abbrev pub path_number : System → List ℕ → ℕ
path_number system path = unwrap_or (position_from (λ i. same_path i.path path) 0 (instances system)) 0

abbrev pub then_less : ℕ → ℕ → Bool → Bool
then_less a b less = nat_lt a b || (nat_eq a b && less)

abbrev pub site_before : System → Site → Site → Bool
site_before system a b =
    then_less (path_number system a.path) (path_number system b.path)
    (then_less a.place.file b.place.file (then_less a.place.line b.place.line (then_less a.place.col b.place.col (nat_lt a.requires_ b.requires_))))

-- a site put among sites in order, once
unfoldable pub insert_site : System → Site → List Site → List Site
insert_site system a [] = a ∷ []
insert_site system a (b ∷ bs) =
    if same_site a b then b ∷ bs else (if site_before system a b then a ∷ (b ∷ bs) else b ∷ insert_site system a bs)

unfoldable pub in_order : System → List Site → List Site
in_order system [] = []
in_order system (a ∷ as') = insert_site system a (in_order system as')

unfoldable pub init_sites : System → List Site
init_sites system = in_order system (flat_map (λ i. sites_in system (init_of i.code) i.path) (instances system))

unfoldable pub step_sites : System → List Site
step_sites system = in_order system (sites_in system (main_next system) [])

unfoldable pub body_sites : System → ProcedureParts → List Site
body_sites system p = in_order system (sites_in system p.body [])

-- What a line judges, before its command and moment are known: its subject and its arity.
abbrev pub Judged : Type 0
Judged = What × ℕ

-- declarations with their numbers
unfoldable pub numbered : {A : Type 0} → ℕ → List A → List (ℕ × A)
numbered n [] = []
numbered n (x ∷ xs) = (n, x) ∷ numbered (n + 1) xs

abbrev pub invariant_judged : List ℕ → ℕ × Decl → Option Judged
invariant_judged path d = option_map (λ e. (Formula path d.0, 1)) (invariant_in d.1)

abbrev pub hyperinvariant_judged : List ℕ → ℕ × Decl → Option Judged
hyperinvariant_judged path d = option_map (λ h. (Formula path d.0, h.0)) (hyperinvariant_in d.1)

abbrev pub judged_by : (List ℕ → ℕ × Decl → Option Judged) → System → List Judged
judged_by formula system = flat_map (λ i. filter_map (formula i.path) (numbered 0 i.code.decls)) (instances system)

-- each site, each invariant and each hyperinvariant, where formulas go by path and declaration
unfoldable pub all_judged : System → List Site → List Judged
all_judged system sites =
    map (λ site. (AtSite site, 1)) sites ++ (judged_by invariant_judged system ++ judged_by hyperinvariant_judged system)

-- a line for each of what is judged, all at one moment
abbrev pub lines_at : ℕ → At → List Judged → List Line
lines_at command moment judged =
    map (λ j. record { command = command; at = moment; what = j.0; arity = j.1 }) judged

-- a run without steps lists the sites of init code, each longer one those of its last step
abbrev pub sites_after : System → ℕ → List Site
sites_after system zero = init_sites system
sites_after system (suc j) = step_sites system

-- the lines after j, j + 1 and so on steps, n times
unfoldable pub lines_from : System → ℕ → (ℕ → At) → ℕ → ℕ → List Line
lines_from system command moment j zero = []
lines_from system command moment j (suc n) =
    lines_at command (moment j) (all_judged system (sites_after system j)) ++ lines_from system command moment (j + 1) n

-- the base, after 0 to k - 1 steps, and then the step from k linked states to a last one
abbrev pub induction_lines : System → ℕ → ℕ → List Line
induction_lines system command k =
    lines_from system command Base 0 k ++ lines_at command (Step k) (all_judged system (step_sites system))

unfoldable pub ensures_from : ℕ → List Expr → List Judged
ensures_from n [] = []
ensures_from n (e ∷ es) = (Ensures n, 1) ∷ ensures_from (n + 1) es

-- A procedure by the number of its declaration.
abbrev pub procedure_named : ℕ → ℕ × Decl → Option (ℕ × ProcedureParts)
procedure_named x (n, Procedure place p) = if nat_eq p.identifier.name x then Some (n, p) else None
procedure_named x other = None

abbrev pub first_of_list : {A : Type 0} → List A → Option A
first_of_list [] = None
first_of_list (x ∷ xs) = Some x

-- the lines at the exit of a procedure of main: each `ensures` from 1, and then each site of its body; none where there is no such procedure
abbrev pub verify_lines : System → ℕ → Option (ℕ × ProcedureParts) → List Line
verify_lines system command None = []
verify_lines system command (Some p) =
    lines_at command (Body p.0) (ensures_from 1 (ensures_of p.1) ++ map (λ site. (AtSite site, 1)) (body_sites system p.1))

abbrev pub main_declarations : System → List Decl
main_declarations system = flat_map (λ m. m.decls) (as_list (main_module system))

-- the lines of a command
abbrev pub lines_of : System → ℕ → WrittenRun → List Line
lines_of system command (Unroll n) = lines_from system command Exactly 0 (n + 1)
lines_of system command (Induction None) = induction_lines system command 1
lines_of system command (Induction (Some k)) = induction_lines system command k
lines_of system command (Verify p) =
    verify_lines system command (first_of_list (filter_map (procedure_named p.name) (numbered 0 (main_declarations system))))

abbrev pub commands_in : Decl → List Command
commands_in (Control place commands) = commands
commands_in other = []

abbrev pub commands_of : System → List Command
commands_of system = flat_map commands_in (main_declarations system)

abbrev pub is_check : Command → Bool
is_check (Check place) = true
is_check other = false

abbrev pub command_lines : System → ℕ → Command → List Line
command_lines system n (RunCommand place name run) = lines_of system n run
command_lines system n other = []

-- the lines of all commands that a later `check` follows, in order
unfoldable pub lines_checked : System → ℕ → List Command → List Line
lines_checked system n [] = []
lines_checked system n (c ∷ cs) =
    (if list_any is_check cs then command_lines system n c else []) ++ lines_checked system (n + 1) cs

abbrev pub all_lines : System → List Line
all_lines system = lines_checked system 0 (commands_of system)

-- the formula of an invariant or a hyperinvariant; the flag tells a hyperinvariant
abbrev pub formula_in : Decl → Option (Bool × Expr)
formula_in (Invariant place name e) = Some (false, e)
formula_in (Hyperinvariant place n name e) = Some (true, e)
formula_in other = None

-- the formula of a declaration, by its number in the module at a path
abbrev pub formula_of : System → List ℕ → ℕ → Option (Bool × Expr)
formula_of system path n =
    option_and_then formula_in (option_and_then (λ m. slice_get m.decls n) (module_at system path))

-- a formula is false of the copies at a position: an invariant in the only copy, a hyperinvariant in all together
abbrev pub IsFalseAt : System → Interp → List ℕ → List (List Position) → ℕ → Option (Bool × Expr) → Type 0
IsFalseAt system i path copies k None = ⊥
IsFalseAt system i path copies k (Some (true, e)) = is_true system (copies_scope i path (states_at k copies)) e ≡ false
IsFalseAt system i path copies k (Some (false, e)) = All (λ run. is_true system (scope_of i path (position_at k run).0) e ≡ false) copies

-- what a line judges fails at the last position: the formula is false there, or the last step lists the site
abbrev pub FailsAt : System → Interp → List (List Position) → ℕ → (List Position → List Site → Type 0) → What → Type 0
FailsAt system i copies k Lists (Formula path n) = IsFalseAt system i path copies k (formula_of system path n)
FailsAt system i copies k Lists (AtSite site) =
    All (λ run. (listed : List Site) × Lists run listed × (lists_site listed site ≡ true)) copies
FailsAt system i copies k Lists (Ensures n) = ⊥

-- copies of runs of just so many steps, in step, at whose last position the subject fails
pub record FailsAfter (system : System) (line : Line) (steps : ℕ) (i : Interp) (copies : List (List Position)) : Type 0 where
  pub runs : AreInStep system i line.arity steps copies
  pub fails : FailsAt system i copies steps (IsRunListing system i) line.what

-- states that are linked by steps, without choices at the first, whose last step lists these sites
abbrev pub AreLinked : System → Interp → List Position → List Site → Type 0
AreLinked system i [] listed = ⊥
AreLinked system i (p ∷ ps) listed = IsState system p.0 × (p.1 ≡ []) × Continues system i p.0 [] ps listed

-- every invariant of an instance's module is true in the state
abbrev pub InvariantsIn : System → Interp → State → InstanceAt → Type 0
InvariantsIn system i s here =
    All (λ e. is_true system (scope_of i here.path s) e ≡ true) (filter_map invariant_in here.code.decls)

-- every hyperinvariant of arity n of an instance's module is true of the copies
abbrev pub HyperinvariantsIn : System → Interp → ℕ → List State → InstanceAt → Type 0
HyperinvariantsIn system i n states here =
    All (λ h. of_arity n h ≡ true → is_true system (copies_scope i here.path states) h.1 ≡ true) (filter_map hyperinvariant_in here.code.decls)

-- copies of K + 1 linked states: all invariants, and the hyperinvariants of the arity, are true at the first K positions, the hyperaxioms at all, and the subject fails at the last
pub record FailsInduction (system : System) (line : Line) (steps : ℕ) (i : Interp) (copies : List (List Position)) : Type 0 where
  pub copied : AreCopies line.arity steps copies
  pub linked : All (λ run. (listed : List Site) × AreLinked system i run listed) copies
  pub invariants : (k : ℕ) → k < steps → All (λ s. All (InvariantsIn system i s) (instances system)) (states_at k copies)
  pub hyperinvariants : (k : ℕ) → k < steps → All (HyperinvariantsIn system i line.arity (states_at k copies)) (instances system)
  pub hyperaxioms : (k : ℕ) → k < steps + 1 → HyperaxiomsAt system i line.arity (states_at k copies)
  pub fails : FailsAt system i copies steps (AreLinked system i) line.what

abbrev pub EnsuresFails : System → State → Running → Option Expr → Type 0
EnsuresFails system entry end None = ⊥
EnsuresFails system entry end (Some e) = is_true system (exit_scope entry end) e ≡ false

-- an execution of a body fails its subject: the `ensures` is false at the exit, or the site is listed
abbrev pub BodyFails : System → ProcedureParts → State → Running → What → Type 0
BodyFails system p entry end (Ensures n) = EnsuresFails system entry end (slice_get (ensures_of p) (n - 1))
BodyFails system p entry end (AtSite site) = lists_site end.sites site ≡ true
BodyFails system p entry end (Formula path n) = ⊥

-- an entry and an exit state of an execution of the procedure, without choices at the entry; the choices at the exit are the arguments and then those of the body
pub record FailsBody (system : System) (line : Line) (i : Interp) (m : Module) (p : ProcedureParts) (entry exit : Position) : Type 0 where
  pub no_choices : entry.1 ≡ []
  pub arguments : List Value
  pub choices : List Value
  pub joined : exit.1 ≡ arguments ++ choices
  pub end : Running
  pub executes : IsExecution system i m p entry.0 arguments choices end
  pub exits : end.scope.before ≡ exit.0
  pub fails : BodyFails system p entry.0 end line.what

abbrev pub procedure_numbered : Option Decl → Option ProcedureParts
procedure_numbered (Some (Procedure place p)) = Some p
procedure_numbered other = None

-- the trace of a body has one copy of two positions, the entry and the exit
abbrev pub FailsBodyOf : System → Line → Interp → Option Module → Option ProcedureParts → List (List Position) → Type 0
FailsBodyOf system line i (Some m) (Some p) ((entry ∷ (exit ∷ [])) ∷ []) = FailsBody system line i m p entry exit
FailsBodyOf system line i m p copies = ⊥

-- what a trace shows by the moment of the line: runs of so many steps, linked states, or an execution of a procedure of main
abbrev pub FailsIn : System → Line → At → Interp → List (List Position) → Type 0
FailsIn system line (Exactly j) i copies = FailsAfter system line j i copies
FailsIn system line (Base j) i copies = FailsAfter system line j i copies
FailsIn system line (Step k) i copies = FailsInduction system line k i copies
FailsIn system line (Body d) i copies =
    FailsBodyOf system line i (main_module system) (procedure_numbered (slice_get (main_declarations system) d)) copies

-- a trace refutes a line
pub record Refutes (system : System) (line : Line) (trace : Trace) : Type 0 where
  pub admitted : IsAdmitted system trace.interp
  pub fails : FailsIn system line line.at trace.interp trace.copies

-- no trace refutes a line
abbrev pub IsValid : System → Line → Type 0
IsValid system line = (trace : Trace) → Refutes system line trace → ⊥
