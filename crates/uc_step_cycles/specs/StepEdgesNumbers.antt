-- The numbers of the nodes of a step graph.
use Rattle.std.specs.Prelude.{ℕ, ◌+◌, List, [], ◌∷◌, length, Option, Some, None}
use Rattle.uc_uses.specs.declared.tree.Step.{Step}
use Rattle.uc_uses.specs.declared.uses.UseKind.TheVariants.{Input}
use Rattle.uc_uses.specs.Tables.{number, use_name}
use Rattle.uc_step_cycles.specs.Tables.{written_by}
use Rattle.uc_step_cycles.specs.declared.stepped_blocks.Block.{Block}
use Rattle.uc_step_cycles.specs.declared.numbers.Names.{Names}

abbrev pub cell_count : Names → ℕ
cell_count n = length n.cells.now.cells

abbrev pub cell_at : Names → Step → Option ℕ
cell_at n s = written_by n.tree.now n.cells.now s

abbrev pub or_cell : ℕ → Option ℕ → Option ℕ → Option ℕ
or_cell start None o = o
or_cell start (Some i) o = Some (start + i)

-- the node of a name that is read primed
abbrev pub read_node : Names → Step → Option ℕ
read_node n s = or_cell (cell_count n) (number n.uses.now (use_name Input s.node s.name)) (cell_at n s)

abbrev pub block_size : Block → ℕ
block_size b = (length b.acts.contexts + 1) + length b.acts.acts

unfoldable pub bases_from : ℕ → List Block → List ℕ
bases_from start [] = []
bases_from start (b ∷ bs) = start ∷ bases_from (start + block_size b) bs

unfoldable pub total_from : ℕ → List Block → ℕ
total_from start [] = start
total_from start (b ∷ bs) = total_from (start + block_size b) bs
