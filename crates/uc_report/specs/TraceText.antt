-- The text of a counterexample, as bytes.
use Rattle.std.specs.Prelude.{ℕ, ◌+◌, if◌then◌else◌, List, [], ◌∷◌, ◌++◌, map, codes, decimal, slice_get, unwrap_or, Option, Some, None}
use Rattle.std.specs.List.{flat_map}
use Rattle.uc_values.specs.declared.ty.Ty.{Ty}
use Rattle.uc_values.specs.declared.value.Value.{Value}
use Rattle.uc_values.specs.Values.{fits}
use Rattle.uc_meaning.specs.declared.scope.Interp.{Interp}
use Rattle.uc_meaning.specs.declared.scope.State.{State}
use Rattle.uc_meaning.specs.declared.line.Line.{Line}
use Rattle.uc_meaning.specs.declared.line.Trace.{Trace}
use Rattle.uc_meaning.specs.Lookup.{System}
use Rattle.uc_meaning.specs.Cells.{ConstantParts, cells_of, cell_of, constants_of}
use Rattle.uc_report.specs.Described.{name_of}
use Rattle.uc_report.specs.HeadsText.{path_text, head_text}
use Rattle.uc_report.specs.declared.cell.CellRef.{CellRef}
use Rattle.uc_report.specs.Values.{value_text}

-- a value that fits a type; nothing for one that does not
abbrev pub fitting_text : System → Ty → Value → List ℕ
fitting_text d ty v = if fits ty v then value_text d ty v else []

-- the value of a cell of a type; nothing where either is missing
abbrev pub shown_text : System → Option Ty → Option Value → List ℕ
shown_text d None v = []
shown_text d (Some ty) None = []
shown_text d (Some ty) (Some v) = fitting_text d ty v

-- the value of a constant in a line of its own: the bytes of its module's name with a dot, its name, and the value
unfoldable pub constant_line : System → List ℕ → ℕ → Ty → Value → List ℕ
constant_line d module_name x ty v = codes "    " ++ module_name ++ codes "." ++ name_of d x ++ codes " = " ++ fitting_text d ty v ++ codes "\n"

abbrev pub constant_text : System → ConstantParts → Value → List ℕ
constant_text d c v = constant_line d (name_of d c.symbol.module_name) c.symbol.name c.type v

-- constants, each with its value
abbrev pub constant_texts : System → List ConstantParts → List Value → List ℕ
constant_texts d (c ∷ cs) (v ∷ vs) = constant_text d c v ++ constant_texts d cs vs
constant_texts d cs vs = []

-- a line before constants, and nothing where there are none
abbrev pub constants_text : System → List ConstantParts → List Value → List ℕ
constants_text d [] vs = []
constants_text d (c ∷ cs) vs = codes "  interpretation\n" ++ constant_texts d (c ∷ cs) vs

-- what an interpretation says of the constants of the modules in use (a design that runs has no functions)
unfoldable pub interpretation_text : System → Interp → List ℕ
interpretation_text d i = constants_text d (constants_of d) i.consts

-- the types of the cells of a state
abbrev pub cell_types : System → List Ty
cell_types d = map (λ c. c.type) (cells_of d)

-- the value that a state has at a place
abbrev pub held_text : System → State → Option ℕ → List ℕ
held_text d s None = []
held_text d s (Some place) = shown_text d (slice_get (cell_types d) place) (slice_get s.cells place)

-- the value of a cell in a line of its own: each instance with a dot, the name, and the value
unfoldable pub cell_text : System → State → CellRef → List ℕ
cell_text d s c = codes "    " ++ path_text d c.path ++ name_of d c.name ++ codes " = " ++ held_text d s (cell_of d c.path c.name) ++ codes "\n"

-- the number of a state in a line of its own, and then its cells that are shown
unfoldable pub state_text : System → List CellRef → ℕ → State → List ℕ
state_text d cells place s = codes "  state " ++ decimal place ++ codes "\n" ++ flat_map (cell_text d s) cells

-- the states from the place on
abbrev pub states_text : System → List CellRef → ℕ → List (State × List Value) → List ℕ
states_text d cells place [] = []
states_text d cells place (s ∷ ss) = state_text d cells place s.0 ++ states_text d cells (place + 1) ss

-- the states of the first copy of a trace
abbrev pub first_copy : Trace → List (State × List Value)
first_copy trace = unwrap_or (slice_get trace.copies 0) []

-- A counterexample of a line: its head in a line of its own, then the constants, and then each state of the one copy, numbered from 0.
unfoldable pub cex_text : System → Line → Trace → List CellRef → List ℕ
cex_text d line trace cells = codes "CEX for " ++ head_text d line ++ codes "\n" ++ interpretation_text d trace.interp ++ states_text d cells 0 (first_copy trace)
