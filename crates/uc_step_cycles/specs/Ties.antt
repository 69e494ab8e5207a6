-- The graph of a tree by the paths of the design.
use Rattle.std.specs.Prelude.{◌≡◌, ◌↔◌, ◌+◌, ℕ, true, List, length, slice_index_or, Some, unwrap_or}
use Rattle.std.specs.Option.{option_and_then}
use Rattle.uc_meaning.specs.Lookup.{System}
use Rattle.uc_graph.specs.Cycles.{LiesOnCycle}
use Rattle.uc_order_rules.specs.Dependence.{on_step_cycle}
use Rattle.uc_order_rules.specs.Reading.{UsesEnd}
use Rattle.uc_uses.specs.Trees.{node_at, step}
use Rattle.uc_uses.specs.declared.use_graph_graph.UseGraph.{UseGraph}
use Rattle.uc_uses.specs.Tables.{KnowsUses}
use Rattle.uc_uses.specs.Resolving.{IsGraph}
use Rattle.uc_step_cycles.specs.CellNumbersNumbers.{AreCellsOf, number_of}
use Rattle.uc_step_cycles.specs.InputWays.{IsUseGraph, IsWhole}
use Rattle.uc_step_cycles.specs.Graphs.{IsStepGraph, Nodes}
use Rattle.uc_step_cycles.specs.declared.stepped_blocks.Block.{Block}
use Rattle.uc_step_cycles.specs.Blocks.{KnowsTree}
use Rattle.uc_step_cycles.specs.StepLaw.{acts_at}
use Rattle.uc_step_cycles.specs.declared.numbers.Names.{Names}
use Rattle.uc_step_cycles.specs.declared.graph.StepGraph.{StepGraph}
use Rattle.uc_step_cycles.specs.StepEdgesNumbers.{cell_count, read_node}
use Rattle.uc_step_cycles.specs.Building.{HasAllEdges}

-- the first number of the block at a path
abbrev pub base_at : Names → StepGraph → List ℕ → ℕ
base_at n s path = slice_index_or s.bases (unwrap_or (node_at n.tree.now path) 0) 0

-- The nodes of the graph, by paths: a block's first number is that of what is around it; behind it come its conditions, and then its acts.
abbrev pub nodes_of : System → Names → List Block → StepGraph → Nodes
nodes_of system n blocks s = record {
  count = cell_count n;
  cell = number_of system n.tree.now n.cells.now;
  around = λ path k. base_at n s path + k;
  doing = λ path a. (base_at n s path + (length (acts_at n.tree.now blocks path).contexts + 1)) + a;
  read = λ path x. option_and_then (λ j. read_node n (step j x)) (node_at n.tree.now path);
}

-- the nodes of the uses
abbrev pub using_of : Names → ℕ → ℕ
using_of n i = cell_count n + i

-- The tree of a root with its cells, uses and blocks, and the graph of these. The module of each instance is there, and ways of uses end.
pub record IsRootGraph (system : System) (n : Names) (g : UseGraph) (blocks : List Block) (s : StepGraph) : Type 0 where
  pub cells : AreCellsOf system n.tree.now n.cells.now
  pub uses : KnowsUses n.tree.now n.uses.now
  pub graph : IsGraph n.tree.now n.uses.now g
  pub acts : KnowsTree n.tree.now blocks
  pub edges : HasAllEdges n g blocks s
  pub whole : IsWhole n.tree.now
  pub ends : UsesEnd system

-- The graph has the edges of the statements and conditions, and those of the uses.
abbrev pub GraphsAreTied : Type 0
GraphsAreTied =
    (system : System) (n : Names) (g : UseGraph) (blocks : List Block) (s : StepGraph) → IsRootGraph system n g blocks s →
    IsStepGraph system (acts_at n.tree.now blocks) s.graph (nodes_of system n blocks s) × IsUseGraph n.tree.now n.uses.now n.cells.now s.graph (using_of n)

-- A cell with a number depends on itself exactly where its number lies on a cycle.
abbrev pub CyclesAreNumbered : Type 0
CyclesAreNumbered =
    (system : System) (n : Names) (g : UseGraph) (blocks : List Block) (s : StepGraph) → IsRootGraph system n g blocks s →
    (x k : ℕ) → number_of system n.tree.now n.cells.now x ≡ Some k → (on_step_cycle system x ≡ true) ↔ LiesOnCycle s.graph k
