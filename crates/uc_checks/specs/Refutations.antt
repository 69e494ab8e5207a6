-- What is met where a trace is asked whether it refutes a line: the conditions of the definition in its order, up to the first that does not hold; in each of them copies come first, then positions, then formulas.
use Rattle.std.specs.Prelude.{◌≡◌, ℕ, ◌+◌, ◌-◌, ◌<◌, true, List, [], ◌∷◌, length, take, drop, map, slice_get, Option, Some}
use Rattle.std.specs.List.{All}
use Rattle.uc_syntax.specs.declared.declaration.Procedure.{Procedure}
use Rattle.uc_syntax.specs.declared.declaration.Module.{Module}
use Rattle.uc_values.specs.declared.value.Value.{Value}
use Rattle.uc_meaning.specs.declared.scope.Interp.{Interp}
use Rattle.uc_meaning.specs.declared.scope.State.{State}
use Rattle.uc_meaning.specs.declared.line.At.{At}
use Rattle.uc_meaning.specs.declared.line.At.TheVariants.{Exactly, Base, Step, Body}
use Rattle.uc_meaning.specs.declared.line.What.{What}
use Rattle.uc_meaning.specs.declared.line.What.TheVariants.{Formula, AtSite, Ensures}
use Rattle.uc_meaning.specs.declared.line.Line.{Line}
use Rattle.uc_meaning.specs.declared.line.Trace.{Trace}
use Rattle.uc_meaning.specs.Lookup.{System, main_module}
use Rattle.uc_meaning.specs.Types.{type_of_written}
use Rattle.uc_meaning.specs.Cells.{instances, IsInterpretation, IsState, FitAll}
use Rattle.uc_meaning.specs.Expressions.{is_true}
use Rattle.uc_meaning.specs.Code.{Ending, Goes, requires_of}
use Rattle.uc_meaning.specs.Runs.{Position, position_at, states_at, ensures_of, AreCopies, HyperaxiomsAt, IsAdmitted}
use Rattle.uc_meaning.specs.Lines.{formula_of, InvariantsIn, HyperinvariantsIn, main_declarations, procedure_numbered}
use Rattle.uc_executions.specs.Asked.{ask_each}
use Rattle.uc_executions.specs.Formulas.{truth_asked, axioms_asked, invariants_asked, hyperinvariants_asked, hyperaxioms_asked}
use Rattle.uc_executions.specs.Judged.{falsity_at}
use Rattle.uc_executions.specs.Executions.{entry_at, body_ending, body_met, ensures_asked}
use Rattle.uc_checks.specs.declared.walk.Beginning.{Beginning}
use Rattle.uc_checks.specs.declared.walk.Beginning.TheVariants.{Initial, Anywhere}
use Rattle.uc_checks.specs.Tellings.{Telling, Nothing, Of, Followed, Where, OfEach, OfPositions}
use Rattle.uc_checks.specs.Walks.{AreStates, CopyTells}

-- the copies are as many and as long as they must be, and the states of each are linked
abbrev pub AreWalked : Beginning → System → Interp → ℕ → ℕ → List (List Position) → Type 0
AreWalked beginning system i n steps copies = AreCopies n steps copies × All (AreStates beginning system i) copies

abbrev pub CopiesTell : Beginning → System → Interp → ℕ → ℕ → List (List Position) → Telling
CopiesTell beginning system i n steps copies =
    Where (AreCopies n steps copies) (OfEach (CopyTells beginning system i) (AreStates beginning system i) copies)

-- all invariants at a position of a copy, and at each of its first positions
abbrev pub InvariantsAt : System → Interp → List Position → ℕ → Type 0
InvariantsAt system i run k = All (InvariantsIn system i (position_at k run).0) (instances system)

abbrev pub InvariantsBefore : System → Interp → ℕ → List Position → Type 0
InvariantsBefore system i steps run = (k : ℕ) → k < steps → InvariantsAt system i run k

abbrev pub InvariantsTell : System → Interp → ℕ → List Position → Telling
InvariantsTell system i steps run = OfPositions (λ k. Of (invariants_asked system i (position_at k run).0).met) (InvariantsAt system i run) 0 steps

abbrev pub AllInvariantsTell : System → Interp → ℕ → List (List Position) → Telling
AllInvariantsTell system i steps copies = OfEach (InvariantsTell system i steps) (InvariantsBefore system i steps) copies

-- the hyper formulas of n copies at a position of all copies
abbrev pub HyperinvariantsAt : System → Interp → ℕ → List (List Position) → ℕ → Type 0
HyperinvariantsAt system i n copies k = All (HyperinvariantsIn system i n (states_at k copies)) (instances system)

abbrev pub HyperinvariantsTell : System → Interp → ℕ → List (List Position) → ℕ → Telling
HyperinvariantsTell system i n copies steps =
    OfPositions (λ k. Of (hyperinvariants_asked system i n (states_at k copies)).met) (HyperinvariantsAt system i n copies) 0 steps

abbrev pub AgreeAt : System → Interp → ℕ → List (List Position) → ℕ → Type 0
AgreeAt system i n copies k = HyperaxiomsAt system i n (states_at k copies)

abbrev pub HyperaxiomsTell : System → Interp → ℕ → List (List Position) → ℕ → Telling
HyperaxiomsTell system i n copies count =
    OfPositions (λ k. Of (hyperaxioms_asked system i n (states_at k copies)).met) (AgreeAt system i n copies) 0 count

-- what a line judges, at the last position
abbrev pub SubjectTells : System → Interp → List (List Position) → ℕ → What → Telling
SubjectTells system i copies steps (Formula path n) = Of (falsity_at system i path copies steps (formula_of system path n)).met
SubjectTells system i copies steps (AtSite site) = Nothing
SubjectTells system i copies steps (Ensures n) = Nothing

abbrev pub EndTells : System → Line → ℕ → Interp → List (List Position) → Telling
EndTells system line steps i copies =
    Followed (HyperaxiomsTell system i line.arity copies (steps + 1)) ((k : ℕ) → k < steps + 1 → AgreeAt system i line.arity copies k)
    (SubjectTells system i copies steps line.what)

-- after so many steps
abbrev pub AfterTells : System → Line → ℕ → Interp → List (List Position) → Telling
AfterTells system line steps i copies =
    Followed (CopiesTell Initial system i line.arity steps copies) (AreWalked Initial system i line.arity steps copies) (EndTells system line steps i copies)

-- in a step of an induction
abbrev pub InductionTells : System → Line → ℕ → Interp → List (List Position) → Telling
InductionTells system line steps i copies =
    Followed (CopiesTell Anywhere system i line.arity steps copies) (AreWalked Anywhere system i line.arity steps copies)
    (Followed (AllInvariantsTell system i steps copies) (All (InvariantsBefore system i steps) copies)
    (Followed (HyperinvariantsTell system i line.arity copies steps) ((k : ℕ) → k < steps → HyperinvariantsAt system i line.arity copies k)
    (EndTells system line steps i copies)))

-- an execution that ends in a state with all choices used, and what a line judges there
abbrev pub EndsIn : State → Ending → Type 0
EndsIn exit (Goes end) = (end.left ≡ []) × (end.scope.before ≡ exit)
EndsIn exit other = ⊥

abbrev pub ExitTells : System → Procedure → State → Ending → What → Telling
ExitTells system p entry (Goes end) (Ensures n) = Of (ensures_asked system entry end.scope (slice_get (ensures_of p) (n - 1))).met
ExitTells system p entry ending what = Nothing

-- the choices at the exit are the arguments, one for each parameter, and then those of the body
abbrev pub arguments_at : Procedure → Position → List Value
arguments_at p exit = take (length p.parameters) exit.1

abbrev pub choices_at : Procedure → Position → List Value
choices_at p exit = drop (length p.parameters) exit.1

-- an entry without choices, and fitting arguments
pub record IsEntry (system : System) (m : Module) (p : Procedure) (entry : Position) (arguments : List Value) : Type 0 where
  pub no_choices : entry.1 ≡ []
  pub state : IsState system entry.0
  pub fit : FitAll (map (λ q. type_of_written system m q.ty) p.parameters) arguments

abbrev pub RequiredAt : System → Module → Interp → Procedure → State → List Value → Type 0
RequiredAt system m i p entry arguments = All (λ e. is_true system (entry_at system m i p entry arguments) e ≡ true) (requires_of p)

abbrev pub BodyTells : System → What → Interp → Module → Procedure → Position → Position → Telling
BodyTells system what i m p entry exit =
    let arguments = arguments_at p exit in
    let scope = entry_at system m i p entry.0 arguments in
    let ending = body_ending system m p scope (choices_at p exit) in
    Where (IsEntry system m p entry arguments)
    (Followed (Of (ask_each (truth_asked system scope) (requires_of p)).met) (RequiredAt system m i p entry.0 arguments)
    (Followed (Of (body_met system m p scope (choices_at p exit))) (EndsIn exit.0 ending)
    (ExitTells system p entry.0 ending what)))

abbrev pub BodyOfTells : System → What → Interp → Option Module → Option Procedure → List (List Position) → Telling
BodyOfTells system what i (Some m) (Some p) ((entry ∷ (exit ∷ [])) ∷ []) = BodyTells system what i m p entry exit
BodyOfTells system what i m p copies = Nothing

abbrev pub LineTells : System → Line → At → Interp → List (List Position) → Telling
LineTells system line (Exactly j) i copies = AfterTells system line j i copies
LineTells system line (Base j) i copies = AfterTells system line j i copies
LineTells system line (Step k) i copies = InductionTells system line k i copies
LineTells system line (Body d) i copies =
    BodyOfTells system line.what i (main_module system) (procedure_numbered (slice_get (main_declarations system) d)) copies

-- the axioms, and then the line
abbrev pub RefutationTells : System → Line → Trace → Telling
RefutationTells system line trace =
    Followed (Where (IsInterpretation system trace.interp) (Of (axioms_asked system trace.interp).met)) (IsAdmitted system trace.interp)
    (LineTells system line line.at trace.interp trace.copies)
