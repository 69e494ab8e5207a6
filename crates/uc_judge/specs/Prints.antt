-- What the commands of a design of one module print.
use Rattle.std.specs.Prelude.{ℕ, Bool, ◌&&◌, nat_le, nat_lt, if◌then◌else◌, List, [], ◌∷◌, Option, Some, None, unwrap_or}
use Rattle.std.specs.List.{flat_map, position_from}
use Rattle.uc_syntax.specs.declared.place.Identifier.{Identifier}
use Rattle.uc_syntax.specs.declared.declaration.VariableKind.{VariableKind}
use Rattle.uc_syntax.specs.declared.declaration.VariableKind.TheVariants.{Constant}
use Rattle.uc_syntax.specs.declared.declaration.Command.{Command}
use Rattle.uc_syntax.specs.declared.declaration.Command.TheVariants.{Check, PrintResults, PrintCounterexamples}
use Rattle.uc_syntax.specs.declared.declaration.Decl.{Decl}
use Rattle.uc_syntax.specs.declared.declaration.Decl.TheVariants.{Variables}
use Rattle.uc_meaning.specs.Lookup.{System}
use Rattle.uc_meaning.specs.Lines.{numbered}
use Rattle.uc_report.specs.declared.cell.CellRef.{CellRef}
use Rattle.uc_report.specs.declared.report.LineResult.{LineResult}
use Rattle.uc_report.specs.declared.report.Print.{Print}
use Rattle.uc_report.specs.declared.report.Print.TheVariants.{Results, Cex}
use Rattle.uc_report.specs.Reports.{is_failed}
use Rattle.uc_report.specs.Prints.{is_run_named, is_of_command, failed_lines, declares, cells_shown}
use Rattle.uc_judge.specs.declared.failed.Wanted.{Wanted}
use Rattle.uc_judge.specs.declared.failed.Wanted.TheVariants.{Between, OfCommand}

-- ---- lines

-- a line of the numbers, or of the command
abbrev pub is_wanted : Wanted → ℕ × LineResult → Bool
is_wanted (Between first end) l = nat_le first l.0 && nat_lt l.0 end
is_wanted (OfCommand command) l = is_of_command l.1.command command

-- the number of a line that failed and is wanted
abbrev pub failed_at : Wanted → ℕ × LineResult → List ℕ
failed_at wanted l = if is_failed l.1.verdict && is_wanted wanted l then l.0 ∷ [] else []

-- the lines of the command of a name, or those of the last `check`, which go from `first` to `end`
abbrev pub wanted_by : List Command → ℕ → ℕ → Option Identifier → Wanted
wanted_by commands first end None = Between first end
wanted_by commands first end (Some f) = OfCommand (position_from (is_run_named f.name) 0 commands)

-- ---- cells

abbrev pub own_ref : ℕ → Identifier → List CellRef
own_ref n i = record { path = []; decl = n; name = i.name } ∷ []

abbrev pub refs_of : ℕ → VariableKind → List Identifier → List CellRef
refs_of n Constant is = []
refs_of n other is = flat_map (own_ref n) is

-- the cells that a declaration of main names
abbrev pub declared_refs : ℕ × Decl → List CellRef
declared_refs (n, Variables place kind is type) = refs_of n kind is
declared_refs other = []

-- all cells of main, in order
abbrev pub own_refs : List Decl → List CellRef
own_refs decls = flat_map declared_refs (numbered 0 decls)

-- the number of the declaration of a name, 0 where there is none
abbrev pub place_or_first : List Decl → ℕ → ℕ
place_or_first decls x = unwrap_or (position_from (declares x) 0 decls) 0

-- the cell of a path that is one name
abbrev pub named_refs : List Decl → List Identifier → List CellRef
named_refs decls (i ∷ []) = record { path = []; decl = place_or_first decls i.name; name = i.name } ∷ []
named_refs decls other = []

-- the cells that are written, or all where none is
abbrev pub shown_refs : List Decl → Option (List (List Identifier)) → List CellRef
shown_refs decls None = own_refs decls
shown_refs decls (Some []) = own_refs decls
shown_refs decls (Some (p ∷ ps)) = flat_map (named_refs decls) (p ∷ ps)

-- ---- commands, one by one

-- where the lines of the last `check` begin and end behind a command, which adds its lines to so many
abbrev pub first_after : ℕ → ℕ → Command → ℕ
first_after first end (Check place) = end
first_after first end other = first

abbrev pub end_after : ℕ → ℕ → Command → ℕ
end_after end added (Check place) = added
end_after end added other = end

-- what a command prints of lines, of which those of the last `check` go from `first` to `end`
abbrev pub printed : System → List LineResult → ℕ → ℕ → Command → List Print
printed system lines first end (PrintResults place) = Results first end ∷ []
printed system lines first end (PrintCounterexamples place f paths) = Cex (failed_lines system lines first end f) (cells_shown system paths) ∷ []
printed system lines first end other = []
