-- Cells that depend on themselves in a step.
use Rattle.std.specs.Prelude.{ℕ, zero, suc, Bool, nat_eq, if◌then◌else◌, List, [], ◌∷◌, ◌++◌, map, length, Option, Some, None}
use Rattle.std.specs.List.{flat_map, list_any}
use Rattle.std.specs.Option.{option_and_then}
use Rattle.uc_lexer.specs.declared.place.Place.{Place}
use Rattle.uc_syntax.specs.declared.expression.Expr.{Expr}
use Rattle.uc_syntax.specs.declared.statement.Target.{Target}
use Rattle.uc_syntax.specs.declared.statement.Arm.{Arm}
use Rattle.uc_syntax.specs.declared.statement.Stmt.{Stmt}
use Rattle.uc_syntax.specs.declared.statement.Stmt.TheOpen.{Stmt-F}
use Rattle.uc_syntax.specs.declared.statement.Stmt.TheOpen.Stmt-F.{Block, Havoc, Assign, If as Choice, Case as Cases, For, Call, Next}
use Rattle.uc_syntax.specs.declared.statement.Stmt.TheFolds.{fold-Stmt}
use Rattle.uc_syntax.specs.declared.declaration.Module.{Module}
use Rattle.uc_meaning.specs.Lookup.{System, module_at, next_of}
use Rattle.uc_meaning.specs.Cells.{cells_of, longest_chain}
use Rattle.uc_meaning.specs.Code.{turns}
use Rattle.uc_meaning.specs.Steps.{CellPart, main_next}
use Rattle.uc_rules.specs.declared.fault.Fault.{Fault}
use Rattle.uc_rules.specs.declared.rule.Rule.TheVariants.{CyclicStep}
use Rattle.uc_rules.specs.Faults.{breaks_where}
use Rattle.uc_rules.specs.Cycles.{leads_to}
use Rattle.uc_order_rules.specs.Mentions.{target_indices}
use Rattle.uc_order_rules.specs.Reads.{cells_primed}
use Rattle.uc_order_rules.specs.Writes.{target_part, name_part, call_parts}

-- A statement that may write cells: its place, these cells, and the cells that it or a condition around it reads primed.
pub record Writing : Type 0 where
  pub place : Place
  pub written : List ℕ
  pub reads : List ℕ

-- A stretch of code, by the cells that the conditions around it read primed. All branches count.
abbrev pub Piece : Type 0
Piece = List ℕ → List Writing

abbrev pub each : List Piece → Piece
each pieces around = flat_map (λ p. p around) pieces

abbrev pub primed_in : System → List ℕ → List Expr → List ℕ
primed_in system path es = flat_map (cells_primed system path) es

abbrev pub writing : Place → List CellPart → List ℕ → List Writing
writing place parts reads = record { place = place; written = map (λ p. p.cell) parts; reads = reads } ∷ []

abbrev pub last_piece : Option (List Piece) → Piece
last_piece None around = []
last_piece (Some block) around = each block around

-- an arm stands under its condition and those of the arms before it
unfoldable pub arms_writing : System → List ℕ → List (Arm Piece) → Option (List Piece) → Piece
arms_writing system path [] otherwise around = last_piece otherwise around
arms_writing system path (a ∷ as') otherwise around =
    each a.body (around ++ cells_primed system path a.condition) ++ arms_writing system path as' otherwise (around ++ cells_primed system path a.condition)

-- the body of a loop counts once, and not at all where the loop has no turn
abbrev pub if_turns : {A : Type 0} → List A → Piece → Piece
if_turns [] piece around = []
if_turns (v ∷ vs) piece around = piece around

-- How the blocks of stepped instances write and read.
abbrev pub Blocks : Type 0
Blocks = List ℕ → List Stmt → Piece

abbrev pub stepped_piece : Blocks → List ℕ → Option Module → Piece
stepped_piece blocks path None around = []
stepped_piece blocks path (Some m) around = blocks path (next_of m) around

-- What a statement writes depends on the conditions around it and, but for a havoc, on the primed cells of its indices, sources and arguments. What is
-- asserted or assumed writes nothing.
abbrev pub writing_form : System → Blocks → List ℕ → Stmt-F Piece → Piece
writing_form system blocks path (Block place block) around = each block around
writing_form system blocks path (Havoc place i primed) around = writing place (name_part system path i.name) around
writing_form system blocks path (Assign place targets sources) around =
    writing place (flat_map (target_part system path) targets) (around ++ primed_in system path (target_indices targets ++ sources))
writing_form system blocks path (Choice place as' otherwise) around = arms_writing system path as' otherwise around
writing_form system blocks path (Cases place as' otherwise) around = arms_writing system path as' otherwise around
writing_form system blocks path (For place x type from to block) around = if_turns (turns from to) (each block) around
writing_form system blocks path (Call place targets f arguments) around =
    writing place (call_parts system path targets f.name) (around ++ primed_in system path (target_indices targets ++ arguments))
writing_form system blocks path (Next place i) around =
    stepped_piece blocks (path ++ i.name ∷ []) (module_at system (path ++ i.name ∷ [])) around
writing_form system blocks path other around = []

unfoldable pub writing_by : System → Blocks → Blocks
writing_by system blocks path code = each (map (fold-Stmt Piece (writing_form system blocks path)) code)

unfoldable pub writing_through : ℕ → System → Blocks
writing_through zero system path code around = []
writing_through (suc n) system path code around = writing_by system (writing_through n system) path code around

-- All statements of the root's next block, and of the blocks that it steps, that may write cells. Below a root that is judged no chain of
-- instances is longer.
unfoldable pub writings : System → List Writing
writings system = writing_through longest_chain system [] (main_next system) []

abbrev pub read_by : ℕ → Writing → List ℕ
read_by k w = if list_any (nat_eq k) w.written then w.reads else []

-- the cells on which a cell depends in a step
abbrev pub depends_on : System → ℕ → List ℕ
depends_on system k = flat_map (read_by k) (writings system)

abbrev pub on_step_cycle : System → ℕ → Bool
on_step_cycle system k = leads_to (length (cells_of system)) (depends_on system) (nat_eq k) k

-- each statement that writes a cell of a cycle is a fault; the first of them is the one that is answered
abbrev pub cyclic_steps : System → List Fault
cyclic_steps system = flat_map (λ w. breaks_where (list_any (on_step_cycle system) w.written) CyclicStep w.place) (writings system)
