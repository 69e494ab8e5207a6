-- The prints that a control block asks for.
use Rattle.std.specs.Prelude.{ℕ, ◌+◌, Bool, true, false, ◌&&◌, nat_eq, nat_le, nat_lt, List, [], ◌∷◌, ◌++◌, map, length, Option, Some, None, unwrap_or}
use Rattle.std.specs.Option.{option_and_then}
use Rattle.std.specs.List.{list_any, filter, flat_map, position_from}
use Rattle.uc_syntax.specs.declared.place.Identifier.{Identifier}
use Rattle.uc_syntax.specs.declared.declaration.Command.{Command}
use Rattle.uc_syntax.specs.declared.declaration.Command.TheVariants.{Run, Check, PrintResults, PrintCounterexamples}
use Rattle.uc_syntax.specs.declared.declaration.Decl.{Decl}
use Rattle.uc_syntax.specs.declared.declaration.Decl.TheVariants.{Variables}
use Rattle.uc_meaning.specs.Lookup.{System, module_at}
use Rattle.uc_meaning.specs.Cells.{InstanceAt, instances, is_cell}
use Rattle.uc_meaning.specs.Lines.{numbered, command_lines, commands_of}
use Rattle.uc_report.specs.declared.cell.CellRef.{CellRef}
use Rattle.uc_report.specs.declared.report.LineResult.{LineResult}
use Rattle.uc_report.specs.declared.report.Print.{Print}
use Rattle.uc_report.specs.declared.report.Print.TheVariants.{Results, Cex}
use Rattle.uc_report.specs.Reports.{is_failed}

-- ---- lines

-- the numbers of the failed lines of which the test holds
abbrev pub failed_where : (ℕ × LineResult → Bool) → List LineResult → List ℕ
failed_where test lines = map (λ l. l.0) (filter (λ l. is_failed l.1.verdict && test l) (numbered 0 lines))

-- a command of the name
abbrev pub is_run_named : ℕ → Command → Bool
is_run_named x (Run place (Some i) run) = nat_eq i.name x
is_run_named x other = false

abbrev pub is_of_command : ℕ → Option ℕ → Bool
is_of_command command None = false
is_of_command command (Some n) = nat_eq command n

-- a line of the command of the name
abbrev pub is_of_named : System → ℕ → ℕ × LineResult → Bool
is_of_named system x l = is_of_command l.1.command (position_from (is_run_named x) 0 (commands_of system))

-- the failed lines of the command of a name, or of the last `check`, whose lines go from `first` to `end`
abbrev pub failed_lines : System → List LineResult → ℕ → ℕ → Option Identifier → List ℕ
failed_lines system lines first end None = failed_where (λ l. nat_le first l.0 && nat_lt l.0 end) lines
failed_lines system lines first end (Some f) = failed_where (is_of_named system f.name) lines

-- ---- cells

-- the cells of an instance that a declaration names
abbrev pub refs_in : InstanceAt → ℕ × Decl → List CellRef
refs_in here (n, Variables place kind is type) = map (λ i. record { path = here.path; decl = n; name = i.name }) (filter (λ i. is_cell here kind i.name) is)
refs_in here other = []

-- all cells, in their order
unfoldable pub all_cells : System → List CellRef
all_cells system = flat_map (λ here. flat_map (refs_in here) (numbered 0 here.code.decls)) (instances system)

abbrev pub declares : ℕ → Decl → Bool
declares x (Variables place kind is type) = list_any (λ i. nat_eq i.name x) is
declares x other = false

-- the number of the declaration of a variable in the module of an instance
abbrev pub declaration_of : System → List ℕ → ℕ → ℕ
declaration_of system path x = unwrap_or (option_and_then (λ m. position_from (declares x) 0 m.decls) (module_at system path)) 0

-- a path behind instances: more instances, and the name of a cell of the last
unfoldable pub cell_behind : System → List ℕ → List Identifier → List CellRef
cell_behind system path [] = []
cell_behind system path (i ∷ []) = record { path = path; decl = declaration_of system path i.name; name = i.name } ∷ []
cell_behind system path (i ∷ (j ∷ rest)) = cell_behind system (path ++ i.name ∷ []) (j ∷ rest)

-- the cells that are written, or all where none is
abbrev pub cells_shown : System → Option (List (List Identifier)) → List CellRef
cells_shown system None = all_cells system
cells_shown system (Some []) = all_cells system
cells_shown system (Some (path ∷ paths)) = flat_map (cell_behind system []) (path ∷ paths)

-- ---- prints

-- The prints of the commands from number n on. The commands before added so many lines; those of the last `check` go from `first` to `end`.
unfoldable pub prints_from : System → List LineResult → ℕ → ℕ → ℕ → ℕ → List Command → List Print
prints_from system lines n first end added [] = []
prints_from system lines n first end added (Check place ∷ cs) = prints_from system lines (n + 1) end added added cs
prints_from system lines n first end added (PrintResults place ∷ cs) = Results first end ∷ prints_from system lines (n + 1) first end added cs
prints_from system lines n first end added (PrintCounterexamples place f paths ∷ cs) =
    Cex (failed_lines system lines first end f) (cells_shown system paths) ∷ prints_from system lines (n + 1) first end added cs
prints_from system lines n first end added (c ∷ cs) = prints_from system lines (n + 1) first end (added + length (command_lines system n c)) cs

-- The prints that the control block of main asks for, of these lines. A `check` judges the lines that were added since the one before it; `print_results` prints the lines of the last `check`,
-- and `print_cex` the counterexamples of its failed lines, or of those of a command by its name.
abbrev pub prints_of : System → List LineResult → List Print
prints_of system lines = prints_from system lines 0 0 0 0 (commands_of system)
