-- The edges of a step graph.
use Rattle.std.specs.Prelude.{◌≡◌, ℕ, ◌+◌, if◌then◌else◌, List, [], ◌∷◌, ◌++◌, length, slice_index_or, Option, Some, None}
use Rattle.uc_uses.specs.declared.tree.Step.{Step}
use Rattle.uc_uses.specs.Trees.{instance_at, step}
use Rattle.uc_uses.specs.declared.use_graph_graph.UseGraph.{UseGraph}
use Rattle.uc_step_cycles.specs.declared.acts.Act.{Act}
use Rattle.uc_step_cycles.specs.declared.acts.Act.TheVariants.{Writes, Steps}
use Rattle.uc_step_cycles.specs.declared.acts.Context.{Context}
use Rattle.uc_step_cycles.specs.declared.acts.Writing.{Writing as WritingStatement}
use Rattle.uc_step_cycles.specs.declared.stepped_blocks.Block.{Block}
use Rattle.uc_step_cycles.specs.declared.numbers.Names.{Names}
use Rattle.uc_step_cycles.specs.declared.block_edges.Spot.{Spot}
use Rattle.uc_step_cycles.specs.declared.graph.StepGraph.{StepGraph}
use Rattle.uc_step_cycles.specs.Edges.{Edge, HasEdges, each_at, edges_from, edges_to}
use Rattle.uc_step_cycles.specs.StepEdgesNumbers.{bases_from, cell_at, cell_count, read_node, total_from}

-- names that are read primed, and names that are written
abbrev pub reads_edges : Names → ℕ → ℕ → List ℕ → List Edge
reads_edges n j from names = each_at (λ k x. edges_from from (read_node n (step j x))) 0 names

abbrev pub writes_edges : Names → ℕ → ℕ → List ℕ → List Edge
writes_edges n j to names = each_at (λ k x. edges_to to (cell_at n (step j x))) 0 names

-- uses
abbrev pub used_edges : ℕ → ℕ → List ℕ → List Edge
used_edges start from used = each_at (λ k l. (from, start + l) ∷ []) 0 used

abbrev pub names_edges : Names → ℕ → List Step → List Edge
names_edges n from named = each_at (λ k s. edges_from from (cell_at n s)) 0 named

abbrev pub use_edges : Names → ℕ → List (List Step) → ℕ → List ℕ → List Edge
use_edges n start named i used = used_edges start (start + i) used ++ names_edges n (start + i) (slice_index_or named i [])

abbrev pub uses_edges : Names → ℕ → List (List Step) → List (List ℕ) → List Edge
uses_edges n start named used = each_at (use_edges n start named) 0 used

-- conditions
abbrev pub context_edges : Names → Spot → ℕ → Context → List Edge
context_edges n s k c = (s.base + (k + 1), s.base + c.around) ∷ [] ++ reads_edges n s.node (s.base + (k + 1)) c.reads

abbrev pub contexts_edges : Names → Spot → List Context → List Edge
contexts_edges n s cs = each_at (context_edges n s) 0 cs

-- statements and steps
abbrev pub writing_edges : Names → Spot → ℕ → WritingStatement → List Edge
writing_edges n s d w = (d, s.base + w.around) ∷ [] ++ (reads_edges n s.node d w.reads ++ writes_edges n s.node d w.written)

abbrev pub into : List ℕ → ℕ → Option (Option ℕ) → List Edge
into bases to (Some (Some l)) = (slice_index_or bases l 0, to) ∷ []
into bases to (Some None) = []
into bases to None = []

abbrev pub step_edges : Names → List ℕ → Spot → ℕ → ℕ → List Edge
step_edges n bases s i k = into bases (s.base + k) (instance_at n.tree.now s.node i)

abbrev pub act_edges : Names → List ℕ → Spot → ℕ → Act → List Edge
act_edges n bases s d (Writes w) = writing_edges n s d w
act_edges n bases s d (Steps i k) = step_edges n bases s i k

abbrev pub acts_edges : Names → List ℕ → Spot → ℕ → List Act → List Edge
acts_edges n bases s start as' = each_at (λ k a. act_edges n bases s (start + k) a) 0 as'

abbrev pub spot : ℕ → ℕ → Spot
spot j base = record { node = j; base = base }

abbrev pub stepped_edges : Names → List ℕ → Spot → Block → List Edge
stepped_edges n bases s b = contexts_edges n s b.acts.contexts ++ acts_edges n bases s (s.base + (length b.acts.contexts + 1)) b.acts.acts

abbrev pub block_edges : Names → List ℕ → ℕ → Block → List Edge
block_edges n bases j b = if b.is_stepped then stepped_edges n bases (spot j (slice_index_or bases j 0)) b else []

abbrev pub blocks_edges : Names → List ℕ → List Block → List Edge
blocks_edges n bases bs = each_at (block_edges n bases) 0 bs

abbrev pub all_edges : Names → UseGraph → List ℕ → List Block → List Edge
all_edges n g bases bs = uses_edges n (cell_count n) g.names g.uses ++ blocks_edges n bases bs

-- the numbers behind those of the cells, of the uses, and of the one that stands for procedures that aren't declared
abbrev pub behind : Names → UseGraph → ℕ
behind n g = (cell_count n + length g.uses) + 1

-- The graph of a tree, and the first numbers of its blocks.
pub record HasAllEdges (n : Names) (g : UseGraph) (bs : List Block) (s : StepGraph) : Type 0 where
  pub bases : s.bases ≡ bases_from (behind n g) bs
  pub edges : HasEdges s.graph (total_from (behind n g) bs) (all_edges n g s.bases bs)
