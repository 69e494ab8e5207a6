-- The places of statements that write a cell with a flag.
use Rattle.std.specs.Prelude.{ℕ, Bool, false, if◌then◌else◌, List, [], slice_index_or, Option, Some, None}
use Rattle.std.specs.List.{flat_map, list_any}
use Rattle.uc_rules.specs.declared.fault.Fault.{Fault}
use Rattle.uc_rules.specs.declared.rule.Rule.TheVariants.{CyclicStep}
use Rattle.uc_rules.specs.Faults.{breaks_where}
use Rattle.uc_uses.specs.Trees.{step}
use Rattle.uc_step_cycles.specs.declared.acts.Act.{Act}
use Rattle.uc_step_cycles.specs.declared.acts.Act.TheVariants.{Writes, Steps}
use Rattle.uc_step_cycles.specs.declared.stepped_blocks.Block.{Block}
use Rattle.uc_step_cycles.specs.declared.numbers.Names.{Names}
use Rattle.uc_step_cycles.specs.Edges.{each_at}
use Rattle.uc_step_cycles.specs.StepEdgesNumbers.{cell_at}

abbrev pub flag_of : List Bool → Option ℕ → Bool
flag_of flags None = false
flag_of flags (Some n) = slice_index_or flags n false

-- whether a name of a node stands for a cell with a flag
abbrev pub is_flagged : Names → List Bool → ℕ → ℕ → Bool
is_flagged n flags j x = flag_of flags (cell_at n (step j x))

abbrev pub noted_act : Names → List Bool → ℕ → Act → List Fault
noted_act n flags j (Writes w) = breaks_where (list_any (is_flagged n flags j) w.written) CyclicStep w.place
noted_act n flags j (Steps i k) = []

-- the blocks that are stepped alone
abbrev pub noted_block : Names → List Bool → ℕ → Block → List Fault
noted_block n flags j b = if b.is_stepped then flat_map (noted_act n flags j) b.acts.acts else []

-- the faults of all blocks
unfoldable pub noted_all : Names → List Bool → List Block → List Fault
noted_all n flags blocks = each_at (noted_block n flags) 0 blocks
