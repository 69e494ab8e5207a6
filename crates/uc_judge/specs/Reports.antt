-- What a report says of a design.
use Rattle.std.specs.Prelude.{◌≡◌, ℕ, map}
use Rattle.std.specs.List.{All}
use Rattle.uc_syntax.specs.declared.declaration.Module.{Module}
use Rattle.uc_meaning.specs.Lookup.{System}
use Rattle.uc_meaning.specs.declared.line.At.{At}
use Rattle.uc_meaning.specs.declared.line.At.TheVariants.{Exactly, Base, Step}
use Rattle.uc_meaning.specs.Lines.{all_lines}
use Rattle.uc_flat.specs.declared.flat.Flat.{Flat}
use Rattle.uc_flat_copies.specs.declared.trace.Start.TheVariants.{Initially, Anywhere}
use Rattle.uc_flat_lines.specs.Lines.{free_bits}
use Rattle.uc_flat_design.specs.Design.{IsFlatOf}
use Rattle.uc_report.specs.declared.report.LineResult.{LineResult}
use Rattle.uc_report.specs.declared.report.Report.{Report}
use Rattle.uc_report.specs.Prints.{prints_of}
use Rattle.uc_report.specs.Verdicts.{IsRightVerdict, IsHonest}

-- the free bits of a line: those of the constants, of the cells, of what the init code draws where the states begin in an initial one, and of what each step draws with its inputs
abbrev pub line_bits : Flat → At → ℕ
line_bits f (Exactly steps) = free_bits f Initially steps
line_bits f (Base steps) = free_bits f Initially steps
line_bits f (Step steps) = free_bits f Anywhere steps
line_bits f other = 0

-- a line is undecided by its budget only where that is below 2 to the line's free bits
abbrev pub IsHonestLine : Flat → ℕ → LineResult → Type 0
IsHonestLine f budget l = IsHonest budget (line_bits f l.line.at) l.verdict

-- The lines are all lines of the design that a `check` follows, in order, each with its command and a right verdict. A line is undecided by its budget only where the budget is below 2 to the line's free bits. The prints are those that the control block asks for.
pub record IsReport (system : System) (budget : ℕ) (report : Report) : Type 0 where
  pub lines : map (λ l. l.line) report.lines ≡ all_lines system
  pub commands : All (λ l. l.command ≡ l.line.command) report.lines
  pub verdicts : All (λ l. IsRightVerdict system l.line l.verdict) report.lines
  pub honest : (code : Module) (f : Flat) → IsFlatOf system code f → All (IsHonestLine f budget) report.lines
  pub prints : report.prints ≡ prints_of system report.lines
