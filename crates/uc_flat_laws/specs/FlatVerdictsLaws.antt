-- Lines that are judged over cells, as lines of the design.
use Rattle.std.specs.Prelude.{◌≡◌, ℕ, [], map, slice_get, Option, Some, None}
use Rattle.uc_syntax.specs.declared.declaration.Module.{Module}
use Rattle.uc_meaning.specs.declared.line.At.{At}
use Rattle.uc_meaning.specs.declared.line.At.TheVariants.{Step}
use Rattle.uc_meaning.specs.declared.line.What.TheVariants.{Formula as OfFormula}
use Rattle.uc_meaning.specs.declared.line.Line.{Line}
use Rattle.uc_meaning.specs.Lookup.{System}
use Rattle.uc_meaning.specs.Lines.{lines_at, lines_from, all_judged, step_sites, Refutes, IsValid}
use Rattle.uc_flat.specs.declared.flat.Flat.{Flat}
use Rattle.uc_flat.specs.declared.flat.Formula.{Formula}
use Rattle.uc_flat_lines.specs.declared.line.FlatLine.{FlatLine}
use Rattle.uc_flat_lines.specs.declared.line.FlatVerdict.{FlatVerdict}
use Rattle.uc_flat_lines.specs.declared.line.FlatVerdict.TheVariants.{Passed, Failed, Undef}
use Rattle.uc_flat_lines.specs.Lines.{step_lines, lines_below, IsRightLine}
use Rattle.uc_flat_design.specs.Design.{IsFlatOf}
use Rattle.uc_flat_laws.specs.FlatRefutationsLaws.{IsOfSteps, start_at, steps_at, trace_of}

-- the declaration that a formula stands for
abbrev pub decl_of : Option Formula → ℕ
decl_of None = 0
decl_of (Some x) = x.decl

-- the line of the design at the moment of so many steps, for the formula of a number
abbrev pub design_line : Flat → ℕ → (ℕ → At) → ℕ × ℕ → Line
design_line f command moment p = record { command = command; at = moment p.0; what = OfFormula [] (decl_of (slice_get f.formulas p.1)); arity = 1 }

-- The lines of runs of 0, 1 and so on steps are those over cells, in order.
abbrev pub OrderLaw : Type 0
OrderLaw =
    (system : System) (code : Module) (f : Flat) (command : ℕ) (moment : ℕ → At) (n : ℕ) → IsFlatOf system code f
    → lines_from system command moment 0 n ≡ map (design_line f command moment) (lines_below f n)

-- The lines after linked states are those over cells, in order.
abbrev pub LinkedLaw : Type 0
LinkedLaw =
    (system : System) (code : Module) (f : Flat) (command k : ℕ) → IsFlatOf system code f
    → lines_at command (Step k) (all_judged system (step_sites system)) ≡ map (design_line f command Step) (step_lines f k)

-- A line of the design passed where no trace refutes it, and failed with a trace that does.
abbrev pub IsRightOf : System → Line → FlatVerdict → Type 0
IsRightOf system line Passed = IsValid system line
IsRightOf system line (Failed t) = Refutes system line (trace_of t)
IsRightOf system line (Undef why) = Unit {0}

-- A right verdict over cells on a formula of one copy is right of the line of the design.
abbrev pub VerdictLaw : Type 0
VerdictLaw =
    (system : System) (code : Module) (f : Flat) (command : ℕ) (moment : ℕ → At) (l : FlatLine) (x : Formula) → IsFlatOf system code f → slice_get f.formulas l.formula ≡ Some x → x.copies ≡ 1
    → IsOfSteps (moment l.steps) → steps_at (moment l.steps) ≡ l.steps → IsRightLine f (start_at (moment l.steps)) l → IsRightOf system (design_line f command moment (l.steps, l.formula)) l.verdict
