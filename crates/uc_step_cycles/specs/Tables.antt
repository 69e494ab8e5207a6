-- The cells of all nodes of a tree.
use Rattle.std.specs.Prelude.{◌≡◌, ℕ, zero, suc, nat_eq, List, slice_get, Option, Some, None}
use Rattle.std.specs.List.{list_any}
use Rattle.std.specs.Option.{option_and_then, option_map}
use Rattle.indexmap.specs.IndexMap.{get}
use Rattle.uc_meaning.specs.Cells.{longest_chain}
use Rattle.uc_uses.specs.declared.tree.Node.{Node}
use Rattle.uc_uses.specs.declared.tree.Step.{Step}
use Rattle.uc_uses.specs.declared.tree.InstanceTree.{InstanceTree}
use Rattle.uc_uses.specs.Trees.{step}
use Rattle.uc_step_cycles.specs.declared.table.NodeCells.{NodeCells}
use Rattle.uc_step_cycles.specs.declared.table.CellTable.{CellTable}
use Rattle.uc_step_cycles.specs.Bound.{KnowsBound}
use Rattle.uc_step_cycles.specs.Cells.{HasCell, declares_cell, is_root}

-- the number of a cell of a node itself
abbrev pub own_cell : CellTable → Step → Option ℕ
own_cell c s = option_and_then (λ n. get nat_eq n.own.things s.name) (slice_get c.nodes s.node)

abbrev pub flat : Option (Option ℕ) → Option ℕ
flat None = None
flat (Some o) = o

-- the parent's name that is bound to a name of a node
abbrev pub bound_name : CellTable → Step → Option ℕ
bound_name c s = option_and_then (λ n. flat (get nat_eq n.bound.things s.name)) (slice_get c.nodes s.node)

abbrev pub above_at : InstanceTree → ℕ → Option Step
above_at t k = option_and_then (λ n. n.above) (slice_get t.nodes k)

abbrev pub outer_at : InstanceTree → CellTable → Step → Option Step
outer_at t c s = option_and_then (λ a. option_map (λ y. step a.node y) (bound_name c s)) (above_at t s.node)

abbrev pub or_here : Step → (Step → Step) → Option Step → Step
or_here s on None = s
or_here s on (Some a) = on a

-- a bound name is the parent's name, followed upwards
unfoldable pub followed_up : ℕ → InstanceTree → CellTable → Step → Step
followed_up zero t c s = s
followed_up (suc n) t c s = or_here s (followed_up n t c) (outer_at t c s)

-- the cell that a name of a node stands for
abbrev pub written_by : InstanceTree → CellTable → Step → Option ℕ
written_by t c s = own_cell c (followed_up longest_chain t c s)

-- what is known of a node: what is bound there, and its cells, each at its number
pub record KnowsNode (k : ℕ) (node : Node) (n : NodeCells) (cells : List Step) : Type 0 where
  pub bound : KnowsBound node.bindings.now n.bound
  pub there : (x : ℕ) → HasCell cells (step k x) (get nat_eq n.own.things x) (list_any (declares_cell (is_root node) n.bound x) node.code.now.decls)

-- Each cell of each node has a number, under which it stands, and no other name has one.
pub record KnowsCells (t : InstanceTree) (c : CellTable) : Type 0 where
  pub nodes : (k : ℕ) (node : Node) → slice_get t.nodes k ≡ Some node → (n : NodeCells) × (slice_get c.nodes k ≡ Some n) × KnowsNode k node n c.cells
  pub none : (k : ℕ) → slice_get t.nodes k ≡ None → slice_get c.nodes k ≡ None
  pub owners : (i : ℕ) (s : Step) → slice_get c.cells i ≡ Some s → own_cell c s ≡ Some i
