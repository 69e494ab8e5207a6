-- Runs of a design, what holds in all of them, and correct procedures.
use Rattle.std.specs.Prelude.{◌≡◌, ℕ, ◌+◌, ◌<◌, Bool, true, false, ◌&&◌, nat_eq, nat_lt, List, [], ◌∷◌, map, length, slice_index_or, Option, Some, None}
use Rattle.std.specs.List.{list_any, filter_map, All}
use Rattle.uc_syntax.specs.declared.expression.Expr.{Expr}
use Rattle.uc_syntax.specs.declared.declaration.Clause.{Clause}
use Rattle.uc_syntax.specs.declared.declaration.Clause.TheVariants.{Ensures}
use Rattle.uc_syntax.specs.declared.declaration.Procedure.{Procedure}
use Rattle.uc_syntax.specs.declared.declaration.Module.{Module}
use Rattle.uc_values.specs.declared.value.Value.{Value}
use Rattle.uc_meaning.specs.declared.scope.Scope.{Scope}
use Rattle.uc_meaning.specs.declared.scope.State.{State}
use Rattle.uc_meaning.specs.declared.scope.Site.{Site}
use Rattle.uc_meaning.specs.declared.scope.Interp.{Interp}
use Rattle.uc_meaning.specs.Lookup.{System, axioms_of, hyperaxiom_in}
use Rattle.uc_meaning.specs.Types.{type_of_written}
use Rattle.uc_meaning.specs.Cells.{InstanceAt, instances, IsInterpretation, IsState, FitAll}
use Rattle.uc_meaning.specs.Expressions.{is_true, bind}
use Rattle.uc_meaning.specs.Code.{Running, Goes, then_run, run, declare, names_with_types, requires_of, same_site}
use Rattle.uc_meaning.specs.Steps.{IsInitial, IsStep, scope_of}

abbrev pub no_state : State
no_state = record { cells = [] }

-- every axiom of the module of an instance is true
abbrev pub AxiomsAt : System → Interp → InstanceAt → Type 0
AxiomsAt system i here = All (λ e. is_true system (scope_of i here.path no_state) e ≡ true) (axioms_of here.code)

-- an interpretation that fits, and under which every axiom of every module in use is true
pub record IsAdmitted (system : System) (i : Interp) : Type 0 where
  pub fits : IsInterpretation system i
  pub axioms : All (AxiomsAt system i) (instances system)

-- A state with the choices that led to it.
abbrev pub Position : Type 0
Position = State × List Value

-- from a state on, each position is reached by a step from the one before; the last step lists these sites, or there is none and it lists what was listed before
unfoldable pub Continues : System → Interp → State → List Site → List Position → List Site → Type 0
Continues system i s sites [] listed = listed ≡ sites
Continues system i s sites (p ∷ ps) listed =
    IsState system p.0 × (next : List Site) × IsStep system i s p.0 p.1 next × Continues system i p.0 next ps listed

-- a run, whose last step, or whose initial state where it has no step, lists these sites
unfoldable pub IsRunListing : System → Interp → List Position → List Site → Type 0
IsRunListing system i [] listed = ⊥
IsRunListing system i (p ∷ ps) listed =
    IsState system p.0 × (first : List Site) × IsInitial system i p.0 p.1 first × Continues system i p.0 first ps listed

abbrev pub IsRun : System → Interp → List Position → Type 0
IsRun system i run = (listed : List Site) × IsRunListing system i run listed

unfoldable pub last_state : List Position → State
last_state [] = no_state
last_state (p ∷ []) = p.0
last_state (p ∷ (q ∷ ps)) = last_state (q ∷ ps)

-- a formula of an instance is true in the last state of every run
abbrev pub Always : System → List ℕ → Expr → Type 0
Always system path formula =
    (i : Interp) (run : List Position) →
    IsAdmitted system i → IsRun system i run → is_true system (scope_of i path (last_state run)) formula ≡ true

abbrev pub lists_site : List Site → Site → Bool
lists_site sites site = list_any (same_site site) sites

-- no run lists the site, in its initial state or in a step
abbrev pub NeverViolated : System → Site → Type 0
NeverViolated system site =
    (i : Interp) (run : List Position) (listed : List Site) →
    IsAdmitted system i → IsRunListing system i run listed → lists_site listed site ≡ false

abbrev pub no_position : Position
no_position = (no_state, [])

abbrev pub position_at : ℕ → List Position → Position
position_at k run = slice_index_or run k no_position

-- the states of several copies at a position
abbrev pub states_at : ℕ → List (List Position) → List State
states_at k copies = map (λ run. (position_at k run).0) copies

-- where a hyper formula is read: the copies' states
abbrev pub copies_scope : Interp → List ℕ → List State → Scope
copies_scope i path states = record (scope_of i path no_state) { copies = states }

-- a hyper formula of n copies; a single copy has none
abbrev pub of_arity : ℕ → ℕ × Expr → Bool
of_arity n h = nat_lt 1 n && nat_eq h.0 n

-- every hyperaxiom of arity n of an instance's module is true of the copies
abbrev pub HyperaxiomsIn : System → Interp → ℕ → List State → InstanceAt → Type 0
HyperaxiomsIn system i n states here =
    All (λ h. of_arity n h ≡ true → is_true system (copies_scope i here.path states) h.1 ≡ true) (filter_map hyperaxiom_in here.code.decls)

abbrev pub HyperaxiomsAt : System → Interp → ℕ → List State → Type 0
HyperaxiomsAt system i n states = All (HyperaxiomsIn system i n states) (instances system)

-- n lists of positions of one length
pub record AreCopies (n steps : ℕ) (copies : List (List Position)) : Type 0 where
  pub number : length copies ≡ n
  pub even : All (λ run. length run ≡ steps + 1) copies

-- n runs of one length under one interpretation, in which every hyperaxiom of arity n is true at every position
pub record AreInStep (system : System) (i : Interp) (n steps : ℕ) (copies : List (List Position)) : Type 0 where
  pub copied : AreCopies n steps copies
  pub runs : All (IsRun system i) copies
  pub agree : (k : ℕ) → k < steps + 1 → HyperaxiomsAt system i n (states_at k copies)

-- a hyper formula of an instance is true at the last position of any n runs in step
abbrev pub HyperAlways : System → List ℕ → ℕ → Expr → Type 0
HyperAlways system path n formula =
    (i : Interp) (steps : ℕ) (copies : List (List Position)) →
    IsAdmitted system i → AreInStep system i n steps copies → is_true system (copies_scope i path (states_at steps copies)) formula ≡ true

abbrev pub ensures_in : Clause → Option Expr
ensures_in (Ensures place e) = Some e
ensures_in other = None

abbrev pub ensures_of : Procedure → List Expr
ensures_of p = filter_map ensures_in p.clauses

-- An execution of a procedure of main: from an entry state, with fitting arguments and with every `requires` true at entry, the body uses all choices and ends.
pub record IsExecution (system : System) (i : Interp) (m : Module) (p : Procedure) (entry : State) (arguments choices : List Value) (end : Running) : Type 0 where
  pub state : IsState system entry
  pub fit : FitAll (map (λ q. type_of_written system m q.ty) p.parameters) arguments
  pub required : All (λ e. is_true system (record (scope_of i [] entry) { locals = bind system m p.parameters arguments [] }) e ≡ true) (requires_of p)
  pub ends : then_run (declare system m (names_with_types p.results) (record {
    scope = record (scope_of i [] entry) { locals = bind system m p.parameters arguments [] };
    sites = [];
    left = choices;
  })) (run system p.body) ≡ Goes end
  pub uses_all : end.left ≡ []

-- where an `ensures` is read: at the exit, with the entry state for `old`
abbrev pub exit_scope : State → Running → Scope
exit_scope entry end = record end.scope { at_entry = Some entry }

-- every execution of a procedure makes each `ensures` true and lists no site
abbrev pub IsCorrect : System → Module → Procedure → Type 0
IsCorrect system m p =
    (i : Interp) (entry : State) (arguments choices : List Value) (end : Running) →
    IsAdmitted system i → IsExecution system i m p entry arguments choices end →
    All (λ e. is_true system (exit_scope entry end) e ≡ true) (ensures_of p) × (end.sites ≡ [])
