-- The head of a line of a report, as bytes.
use Rattle.std.specs.Prelude.{ℕ, if◌then◌else◌, nat_eq, List, [], ◌++◌, codes, decimal, slice_get, Option, Some, None}
use Rattle.std.specs.Option.{option_map_or, option_and_then}
use Rattle.std.specs.List.{flat_map}
use Rattle.uc_lexer.specs.declared.place.Place.{Place}
use Rattle.uc_syntax.specs.declared.declaration.Decl.{Decl}
use Rattle.uc_syntax.specs.declared.declaration.Decl.TheVariants.{Invariant, Hyperinvariant}
use Rattle.uc_syntax.specs.declared.declaration.Command.{Command}
use Rattle.uc_syntax.specs.declared.declaration.Command.TheVariants.{Run}
use Rattle.uc_syntax.specs.declared.declaration.WrittenRun.{WrittenRun}
use Rattle.uc_syntax.specs.declared.declaration.WrittenRun.TheVariants.{Unroll, Induction, Verify}
use Rattle.uc_meaning.specs.declared.scope.Site.{Site}
use Rattle.uc_meaning.specs.declared.line.At.{At}
use Rattle.uc_meaning.specs.declared.line.At.TheVariants.{Exactly, Base, Step, Body}
use Rattle.uc_meaning.specs.declared.line.What.{What}
use Rattle.uc_meaning.specs.declared.line.What.TheVariants.{Formula, AtSite, Ensures}
use Rattle.uc_meaning.specs.declared.line.Line.{Line}
use Rattle.uc_meaning.specs.Lookup.{System, module_at}
use Rattle.uc_meaning.specs.Lines.{commands_of, main_declarations, procedure_numbered}
use Rattle.uc_report.specs.Described.{name_of, file_of}
use Rattle.uc_report.specs.Named.{named_places, name_in}

-- a command by its name, or by its word where it has none
abbrev pub run_text : WrittenRun → List ℕ
run_text (Unroll n) = codes "unroll"
run_text (Induction k) = codes "induction"
run_text (Verify p) = codes "verify"

abbrev pub command_text : System → Command → List ℕ
command_text d (Run place (Some name) run) = name_of d name.name
command_text d (Run place None run) = run_text run
command_text d other = []

-- the command of a number
unfoldable pub command_at : System → ℕ → List ℕ
command_at d n = option_map_or (command_text d) (slice_get (commands_of d) n) []

-- a procedure of main by the number of its declaration
unfoldable pub procedure_text : System → ℕ → List ℕ
procedure_text d n = option_map_or (λ p. name_of d p.identifier.name) (procedure_numbered (slice_get (main_declarations d) n)) []

-- the moment of a line, in brackets
unfoldable pub moment_text : System → At → List ℕ
moment_text d (Exactly j) = codes " [step " ++ decimal j ++ codes "] "
moment_text d (Base j) = codes " [base " ++ decimal j ++ codes "] "
moment_text d (Step k) = codes " [step] "
moment_text d (Body p) = codes " [" ++ procedure_text d p ++ codes "] "

-- each instance of a path with a dot
abbrev pub path_text : System → List ℕ → List ℕ
path_text d path = flat_map (λ i. name_of d i ++ codes ".") path

-- a place as FILE:LINE:COLUMN
unfoldable pub place_text : System → Place → List ℕ
place_text d p = file_of d p.file ++ codes ":" ++ decimal p.line ++ codes ":" ++ decimal p.col

-- a formula by its kind, its path and its name
unfoldable pub formula_text : System → List ℕ → Option Decl → List ℕ
formula_text d path (Some (Invariant place name e)) = codes "invariant " ++ path_text d path ++ name_of d name.name
formula_text d path (Some (Hyperinvariant place n name e)) = codes "hyperinvariant " ++ path_text d path ++ name_of d name.name
formula_text d path other = []

-- a clause of a procedure by its number
abbrev pub clause_text : List ℕ → ℕ → List ℕ
clause_text procedure n = procedure ++ codes "#" ++ decimal n

-- the name that stands at a place of code
unfoldable pub name_at : System → Place → Option ℕ
name_at d place = name_in (named_places d) place

-- an assertion by its path and its label, or its place where it has none
unfoldable pub assertion_text : System → Site → Option ℕ → List ℕ
assertion_text d site label = codes "assertion " ++ path_text d site.path ++ option_map_or (name_of d) label (place_text d site.place)

-- a `requires` of a call by its path, the procedure and its number, and the place of the call
unfoldable pub precondition_text : System → Site → Option ℕ → List ℕ
precondition_text d site procedure =
    codes "precondition " ++ path_text d site.path ++ clause_text (option_map_or (name_of d) procedure []) site.requires_ ++ codes " at " ++ place_text d site.place

unfoldable pub site_text : System → Site → List ℕ
site_text d site =
    if nat_eq site.requires_ 0 then assertion_text d site (name_at d site.place) else precondition_text d site (name_at d site.place)

-- the procedure that a line is about
abbrev pub body_text : System → At → List ℕ
body_text d (Body p) = procedure_text d p
body_text d other = []

-- the kind and the name of what a line judges
unfoldable pub subject_text : System → At → What → List ℕ
subject_text d moment (Formula path n) = formula_text d path (option_and_then (λ m. slice_get m.decls n) (module_at d path))
subject_text d moment (AtSite site) = site_text d site
subject_text d moment (Ensures n) = codes "postcondition " ++ clause_text (body_text d moment) n

-- a line's command, moment and subject
unfoldable pub head_text : System → Line → List ℕ
head_text d line = command_at d line.command ++ moment_text d line.at ++ subject_text d line.at line.what
