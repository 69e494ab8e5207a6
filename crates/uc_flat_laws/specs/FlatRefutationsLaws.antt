-- Lines of a design and formulas of its design over cells.
use Rattle.std.specs.Prelude.{◌≡◌, ℕ, nat_eq, List, [], map, Contains}
use Rattle.std.specs.List.{filter}
use Rattle.uc_syntax.specs.declared.declaration.Module.{Module}
use Rattle.uc_meaning.specs.declared.line.At.{At}
use Rattle.uc_meaning.specs.declared.line.At.TheVariants.{Exactly, Base, Step, Body}
use Rattle.uc_meaning.specs.declared.line.What.TheVariants.{Formula as OfFormula}
use Rattle.uc_meaning.specs.declared.line.Line.{Line}
use Rattle.uc_meaning.specs.declared.line.Trace.{Trace}
use Rattle.uc_meaning.specs.declared.scope.Interp.{Interp}
use Rattle.uc_meaning.specs.Lookup.{System}
use Rattle.uc_meaning.specs.Steps.{state_of}
use Rattle.uc_meaning.specs.Runs.{Position}
use Rattle.uc_meaning.specs.Lines.{all_judged, sites_after, Refutes}
use Rattle.uc_flat.specs.declared.flat.Flat.{Flat}
use Rattle.uc_flat.specs.declared.flat.Formula.{Formula}
use Rattle.uc_flat.specs.declared.trace.FlatPosition.{FlatPosition}
use Rattle.uc_flat_copies.specs.declared.trace.FlatCopies.{FlatCopies}
use Rattle.uc_flat_copies.specs.declared.trace.Start.{Start}
use Rattle.uc_flat_copies.specs.declared.trace.Start.TheVariants.{Initially, Anywhere}
use Rattle.uc_flat_copies.specs.Traces.{RefutesCopies}
use Rattle.uc_flat_copies.specs.Lines.{line_over}
use Rattle.uc_flat_design.specs.Design.{IsFlatOf}

-- the formulas of one copy, which are not the axioms
abbrev pub singles_of : Flat → List Formula
singles_of f = filter (λ x. nat_eq x.copies 1) f.formulas

-- What is judged after so many steps is the formulas of one copy, in order.
abbrev pub LinesLaw : Type 0
LinesLaw =
    (system : System) (code : Module) (f : Flat) (steps : ℕ) → IsFlatOf system code f
    → all_judged system (sites_after system steps) ≡ map (λ (x : Formula). (OfFormula [] x.decl, 1)) (singles_of f)

-- The moments of runs and of linked states: how the states begin, and how many steps there are. At the exit of a procedure it is neither.
abbrev pub IsOfSteps : At → Type 0
IsOfSteps (Body d) = ⊥
IsOfSteps other = Unit {0}

abbrev pub start_at : At → Start
start_at (Step k) = Anywhere
start_at other = Initially

abbrev pub steps_at : At → ℕ
steps_at (Exactly n) = n
steps_at (Base n) = n
steps_at (Step n) = n
steps_at (Body d) = 0

-- the line of a formula at a moment
abbrev pub line_of : ℕ → At → Formula → Line
line_of command at x = record { command = command; at = at; what = OfFormula [] x.decl; arity = 1 }

-- the interpretation of a trace over cells, which has no functions
abbrev pub interpretation_of : FlatCopies → Interp
interpretation_of t = record { consts = t.constants; tables = [] }

abbrev pub positions_of : List FlatPosition → List Position
positions_of ps = map (λ p. (state_of p.cells, p.choices)) ps

-- the trace of the design, whose constants and whose states' cells are those of a trace over cells
abbrev pub trace_of : FlatCopies → Trace
trace_of t = record { interp = interpretation_of t; copies = map positions_of t.copies }

-- For each trace that refutes the line of a formula of one copy there is a trace over cells that does.
abbrev pub FoundLaw : Type 0
FoundLaw =
    (system : System) (code : Module) (f : Flat) (command : ℕ) (at : At) (x : Formula) (trace : Trace) → IsFlatOf system code f → Contains f.formulas x → x.copies ≡ 1 → IsOfSteps at
    → Refutes system (line_of command at x) trace → (t : FlatCopies) × RefutesCopies f (line_over f (start_at at) (steps_at at) x) t

-- A trace over cells that refutes a formula of one copy is, as a trace of the design, one that refutes its line.
abbrev pub RefutedLaw : Type 0
RefutedLaw =
    (system : System) (code : Module) (f : Flat) (command : ℕ) (at : At) (x : Formula) (t : FlatCopies) → IsFlatOf system code f → Contains f.formulas x → x.copies ≡ 1 → IsOfSteps at
    → RefutesCopies f (line_over f (start_at at) (steps_at at) x) t → Refutes system (line_of command at x) (trace_of t)
