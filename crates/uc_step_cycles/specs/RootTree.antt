-- The tree of a root that is judged, and the flags of the nodes of its graph.
use Rattle.std.specs.Prelude.{◌≡◌, ℕ, Bool, List, Some}
use Rattle.uc_syntax.specs.declared.declaration.Module.{Module}
use Rattle.uc_meaning.specs.Lookup.{System, InstanceParts, instance_of, instances_of, main_module}
use Rattle.uc_declared_types.specs.AliasLaw.{IsAmong}
use Rattle.uc_graph.specs.Cycles.{MarksCycles}
use Rattle.uc_order_rules.specs.Reading.{UsesEnd}
use Rattle.uc_uses.specs.declared.tree.InstanceTree.{InstanceTree}
use Rattle.uc_uses.specs.Trees.{IsTree, code_at}
use Rattle.uc_uses.specs.declared.use_graph_graph.UseGraph.{UseGraph}
use Rattle.uc_step_cycles.specs.InputWays.{IsWhole}
use Rattle.uc_step_cycles.specs.declared.stepped_blocks.Block.{Block}
use Rattle.uc_step_cycles.specs.StepLaw.{IsShallow}
use Rattle.uc_step_cycles.specs.declared.numbers.Names.{Names}
use Rattle.uc_step_cycles.specs.declared.graph.StepGraph.{StepGraph}
use Rattle.uc_step_cycles.specs.Building.{HasAllEdges}

-- The tree of a root. Instances have names of their own and modules that are there, no chain of them is too long, and ways of uses end.
pub record IsRootTree (system : System) (t : InstanceTree) : Type 0 where
  pub root : Module
  pub is_root : main_module system ≡ Some root
  pub tree : IsTree system t
  pub alone : (j : ℕ) (m : Module) (i : InstanceParts) → code_at t j ≡ Some m → IsAmong i (instances_of m) → instance_of m i.name ≡ Some i
  pub shallow : IsShallow t
  pub whole : IsWhole t
  pub ends : UsesEnd system

-- The flags are those of the nodes that lie on cycles of the graph of a tree.
pub record MarksSteps (n : Names) (g : UseGraph) (blocks : List Block) (flags : List Bool) : Type 0 where
  pub graph : StepGraph
  pub edges : HasAllEdges n g blocks graph
  pub marks : MarksCycles graph.graph flags
