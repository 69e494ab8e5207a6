-- Graphs with the uses of a tree as nodes.
use Rattle.std.specs.Prelude.{◌≡◌, ◌⊎◌, ◌↔◌, ◌<◌, ◌≤◌, ℕ, true, List, [], length, slice_index_or, Some, None}
use Rattle.uc_syntax.specs.declared.declaration.Module.{Module}
use Rattle.uc_meaning.specs.Lookup.{System}
use Rattle.uc_declared_types.specs.AliasLaw.{IsAmong}
use Rattle.uc_graph.specs.Order.{has, needs}
use Rattle.uc_order_rules.specs.Roots.{NameAt}
use Rattle.uc_order_rules.specs.Uses.{UsedInput}
use Rattle.uc_order_rules.specs.Reads.{cells_read, name_reads}
use Rattle.uc_order_rules.specs.Passages.{Passes}
use Rattle.uc_order_rules.specs.Reading.{UsesEnd}
use Rattle.uc_uses.specs.declared.tree.Step.{Step}
use Rattle.uc_uses.specs.declared.tree.InstanceTree.{InstanceTree}
use Rattle.uc_uses.specs.Trees.{code_at, instance_at}
use Rattle.uc_uses.specs.declared.table.UseTable.{UseTable}
use Rattle.uc_uses.specs.Tables.{KnowsUses}
use Rattle.uc_uses.specs.Resolving.{all_source_names, all_source_uses}
use Rattle.uc_uses.specs.Numbers.{number_of as number_of_use}
use Rattle.uc_step_cycles.specs.declared.table.CellTable.{CellTable}
use Rattle.uc_step_cycles.specs.Tables.{written_by}
use Rattle.uc_step_cycles.specs.CellNumbersNumbers.{AreCellsOf, number_of}

-- the names that a use reads that are no bound inputs
abbrev pub names_of : InstanceTree → UseTable → ℕ → List Step
names_of t u i = slice_index_or (all_source_names t u) i []

-- what leads on from a use: what it uses, and the cells that it names itself
abbrev pub UseEdge : InstanceTree → UseTable → CellTable → (ℕ → ℕ) → ℕ → ℕ → Type 0
UseEdge t u c using i b = ((l : ℕ) × (has (needs (all_source_uses t u) i) l ≡ true) × (b ≡ using l)) ⊎ ((s : Step) × IsAmong s (names_of t u i) × (written_by t c s ≡ Some b))

-- The graph has exactly these edges from uses, whose nodes come behind those of the cells.
pub record IsUseGraph (t : InstanceTree) (u : UseTable) (c : CellTable) (graph : List (List ℕ)) (using : ℕ → ℕ) : Type 0 where
  pub behind : (i : ℕ) → length c.cells ≤ using i
  pub edges : (i b : ℕ) → i < length u.uses → (has (needs graph (using i)) b ≡ true) ↔ UseEdge t u c using i b

-- the module of each instance of a node is there
abbrev pub IsWhole : InstanceTree → Type 0
IsWhole t = (k x : ℕ) (m : Module) → code_at t k ≡ Some m → instance_at t k x ≡ Some None → ⊥

-- a cell with this number is read
abbrev pub ReadsNumber : System → InstanceTree → CellTable → NameAt → ℕ → Type 0
ReadsNumber system t c n m = (y : ℕ) × IsAmong y (name_reads system (cells_read system) n) × (number_of system t c y ≡ Some m)

abbrev pub InputsLeadToCells : Type 0
InputsLeadToCells =
    (system : System) (t : InstanceTree) (u : UseTable) (c : CellTable) (graph : List (List ℕ)) (using : ℕ → ℕ) → AreCellsOf system t c → KnowsUses t u → IsWhole t → UsesEnd system → IsUseGraph t u c graph using →
    (n : NameAt) (i m : ℕ) → number_of_use t u (UsedInput n) ≡ Some i → m < length c.cells → Passes graph (length c.cells) (using i) m ↔ ReadsNumber system t c n m
