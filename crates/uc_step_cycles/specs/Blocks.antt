-- The blocks of the nodes of a tree.
use Rattle.std.specs.Prelude.{◌≡◌, ◌&&◌, ℕ, Bool, true, false, nat_eq, is_some, List, length, slice_get, take, Option, Some, None}
use Rattle.indexmap.specs.IndexMap.{get}
use Rattle.uc_uses.specs.declared.tree.Node.{Node}
use Rattle.uc_uses.specs.declared.tree.Step.{Step}
use Rattle.uc_uses.specs.declared.tree.InstanceTree.{InstanceTree}
use Rattle.uc_step_cycles.specs.Acts.{AreActs}
use Rattle.uc_step_cycles.specs.declared.stepped_blocks.Block.{Block}
use Rattle.uc_step_cycles.specs.Steps.{KnowsSteps}

abbrev pub flag_in : ℕ → Option Block → Bool
flag_in x None = false
flag_in x (Some b) = b.is_stepped && is_some (get nat_eq b.steps.things x)

-- an instance is stepped where the block above it is stepped and steps it; the root always is
abbrev pub flag_of : List Block → Option Step → Bool
flag_of before None = true
flag_of before (Some s) = flag_in s.name (slice_get before s.node)

pub record IsBlock (before : List Block) (node : Node) (b : Block) : Type 0 where
  pub acts_are : AreActs node.code.now b.acts
  pub steps_are : KnowsSteps b.acts.acts b.steps
  pub flag : b.is_stepped ≡ flag_of before node.above

-- Each node has its block, by those of the nodes before it.
pub record KnowsTree (t : InstanceTree) (blocks : List Block) : Type 0 where
  pub count : length blocks ≡ length t.nodes
  pub at : (j : ℕ) (node : Node) → slice_get t.nodes j ≡ Some node → (b : Block) × (slice_get blocks j ≡ Some b) × IsBlock (take j blocks) node b
