-- The blocks of a tree by paths.
use Rattle.std.specs.Prelude.{◌≡◌, ◌↔◌, ◌<◌, ℕ, true, List, length, slice_get, Option, Some, None}
use Rattle.std.specs.Option.{option_and_then}
use Rattle.uc_syntax.specs.declared.declaration.Module.{Module}
use Rattle.uc_meaning.specs.Lookup.{System, main_module}
use Rattle.uc_meaning.specs.Cells.{longest_chain}
use Rattle.uc_uses.specs.declared.tree.InstanceTree.{InstanceTree}
use Rattle.uc_uses.specs.Trees.{IsTree, node_at}
use Rattle.uc_step_cycles.specs.declared.acts.Acts.{Acts}
use Rattle.uc_step_cycles.specs.Acts.{none_yet}
use Rattle.uc_step_cycles.specs.Stepping.{IsStepped, KnowsBlocks}
use Rattle.uc_step_cycles.specs.declared.stepped_blocks.Block.{Block}
use Rattle.uc_step_cycles.specs.Blocks.{KnowsTree}

abbrev pub acts_in : Option Block → Acts
acts_in None = none_yet
acts_in (Some b) = b.acts

-- what the block at a path does
abbrev pub acts_at : InstanceTree → List Block → List ℕ → Acts
acts_at t blocks path = acts_in (option_and_then (slice_get blocks) (node_at t path))

-- It is known what the block at each path does, and which are stepped.
pub record FollowsSteps (system : System) (t : InstanceTree) (blocks : List Block) : Type 0 where
  pub known : KnowsBlocks system (acts_at t blocks)
  pub stepped : (path : List ℕ) (j : ℕ) (b : Block) → node_at t path ≡ Some j → slice_get blocks j ≡ Some b → (b.is_stepped ≡ true) ↔ IsStepped system (acts_at t blocks) path

-- No chain of instances is too long.
abbrev pub IsShallow : InstanceTree → Type 0
IsShallow t = (path : List ℕ) (j : ℕ) → node_at t path ≡ Some j → length path < longest_chain

abbrev pub StepsAreFollowed : Type 0
StepsAreFollowed = (system : System) (t : InstanceTree) (blocks : List Block) (m : Module) → main_module system ≡ Some m → IsTree system t → IsShallow t → KnowsTree t blocks → FollowsSteps system t blocks
