-- The cells of a design, and their numbers in a table over a tree of its instances.
use Rattle.std.specs.Prelude.{◌≡◌, ◌<◌, ℕ, Bool, false, nat_eq, if◌then◌else◌, List, length, slice_get, Option, Some, None}
use Rattle.std.specs.Option.{option_and_then}
use Rattle.uc_syntax.specs.declared.declaration.Module.{Module}
use Rattle.uc_meaning.specs.Lookup.{System, InstanceParts, instance_of, instances_of, main_module}
use Rattle.uc_meaning.specs.Cells.{Cell, cell_of, cells_of, longest_chain}
use Rattle.uc_meaning.specs.Code.{written_cell}
use Rattle.uc_declared_types.specs.AliasLaw.{IsAmong}
use Rattle.uc_uses.specs.declared.tree.InstanceTree.{InstanceTree}
use Rattle.uc_uses.specs.Trees.{IsTree, code_at, node_at, step}
use Rattle.uc_step_cycles.specs.declared.table.CellTable.{CellTable}
use Rattle.uc_step_cycles.specs.Tables.{KnowsCells, own_cell, written_by}

abbrev pub is_place : ℕ → Option ℕ → Bool
is_place k None = false
is_place k (Some l) = nat_eq k l

-- the number of a cell that is declared so, where it is the first of its name at its path
abbrev pub number_at : System → InstanceTree → CellTable → ℕ → Cell → Option ℕ
number_at system t c k d = if is_place k (cell_of system d.path d.name) then option_and_then (λ j. own_cell c (step j d.name)) (node_at t d.path) else None

abbrev pub number_of : System → InstanceTree → CellTable → ℕ → Option ℕ
number_of system t c k = option_and_then (number_at system t c k) (slice_get (cells_of system) k)

-- The tree of a root and the cells of its nodes. No two instances of a module have one name, and no chain of instances is too long.
pub record AreCellsOf (system : System) (t : InstanceTree) (c : CellTable) : Type 0 where
  pub root : Module
  pub is_root : main_module system ≡ Some root
  pub tree : IsTree system t
  pub cells : KnowsCells t c
  pub alone : (j : ℕ) (m : Module) (i : InstanceParts) → code_at t j ≡ Some m → IsAmong i (instances_of m) → instance_of m i.name ≡ Some i
  pub shallow : (path : List ℕ) (j : ℕ) → node_at t path ≡ Some j → length path < longest_chain

-- a cell of the design and its number, or neither
abbrev pub IsNumbered : System → InstanceTree → CellTable → Option ℕ → Option ℕ → Type 0
IsNumbered system t c None None = Unit {0}
IsNumbered system t c (Some k) (Some n) = (number_of system t c k ≡ Some n) × (k < length (cells_of system))
IsNumbered system t c None (Some n) = ⊥
IsNumbered system t c (Some k) None = ⊥

-- No two cells have one number, and a name is followed to the same cell.
pub record NumbersCells (system : System) (t : InstanceTree) (c : CellTable) : Type 0 where
  pub alone : (k l n : ℕ) → number_of system t c k ≡ Some n → number_of system t c l ≡ Some n → k ≡ l
  pub within : (k n : ℕ) → number_of system t c k ≡ Some n → n < length c.cells
  pub written : (path : List ℕ) (j x : ℕ) → node_at t path ≡ Some j → IsNumbered system t c (written_cell system path x) (written_by t c (step j x))

abbrev pub CellsAreNumbered : Type 0
CellsAreNumbered = (system : System) (t : InstanceTree) (c : CellTable) → AreCellsOf system t c → NumbersCells system t c
