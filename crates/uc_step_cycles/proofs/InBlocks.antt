-- The edges from a number, by what the number stands for.
use Rattle.std.proofs.Common.{◌≡◌, ℕ, ◌+◌, ◌<◌, ◌≤◌, true, List, length, Some, ap, sym, subst, ◌∙◌, ◌⊎◌, inl, inr, ⊎_elim, arith}
use Rattle.std.specs.Prelude.{slice_get, slice_index_or}
use Rattle.uc_graph.specs.Order.{has, needs}
use Rattle.uc_uses.specs.Trees.{instance_at, step}
use Rattle.uc_uses.specs.declared.use_graph_graph.UseGraph.{UseGraph}
use Rattle.uc_step_cycles.specs.declared.acts.Act.TheVariants.{Writes}
use Rattle.uc_step_cycles.specs.declared.acts.Context.{Context}
use Rattle.uc_step_cycles.specs.declared.acts.Writing.{Writing as WritingStatement}
use Rattle.uc_step_cycles.specs.declared.stepped_blocks.Block.{Block}
use Rattle.uc_step_cycles.specs.declared.numbers.Names.{Names}
use Rattle.uc_step_cycles.specs.declared.graph.StepGraph.{StepGraph}
use Rattle.uc_step_cycles.specs.StepEdgesNumbers.{bases_from, block_size, cell_at, cell_count, total_from}
use Rattle.uc_step_cycles.specs.Building.{HasAllEdges, behind}
use Rattle.uc_step_cycles.proofs.Lists.{get_within, some_same}
use Rattle.uc_step_cycles.proofs.Places.{base_low, base_within, one_block, total_low}
use Rattle.uc_step_cycles.proofs.Origins.{OfCell, OfContext, OfStatement, OfStep, OfUse, Origin, ReadsTo, StandsIn, origin, use_edge, context_edge, statement_edge, cell_edge, step_edge}

-- the cells of blocks have numbers below those of the uses, and the nodes of instances have blocks
pub record AreNodes (n : Names) (g : UseGraph) (blocks : List Block) (bases : List ℕ) : Type 0 where
  pub low_cells : (j x a : ℕ) (b : Block) → StandsIn n g blocks bases j b → cell_at n (step j x) ≡ Some a → a < cell_count n
  pub below : (j x l : ℕ) → instance_at n.tree.now j x ≡ Some (Some l) → (b : Block) × (slice_get blocks l ≡ Some b)

module _ (n : Names) (g : UseGraph) (blocks : List Block) (s : StepGraph) (edges : HasAllEdges n g blocks s) (are : AreNodes n g blocks s.bases) where
  abbrev pub first : ℕ → ℕ
  first j = slice_index_or s.bases j 0

  abbrev conditions : Block → ℕ
  conditions b = length b.acts.contexts + 1

  abbrev In : ℕ → Block → Type 0
  In j b = StandsIn n g blocks s.bases j b

  abbrev IsEdge : ℕ → ℕ → Type 0
  IsEdge a b = has (needs s.graph a) b ≡ true

  first_is : (j : ℕ) → first j ≡ slice_index_or (bases_from (behind n g) blocks) j 0
  first_is j = ap (λ bs. slice_index_or bs j 0) edges.bases

  pub low : (j : ℕ) (b : Block) → slice_get blocks j ≡ Some b → (cell_count n + length g.uses) + 1 ≤ first j
  low j b there = let l = base_low (behind n g) j blocks b there in let e = first_is j in omega (arith, l, e)

  pub inside : (j i : ℕ) (b : Block) → slice_get blocks j ≡ Some b → i < block_size b → first j + i < total_from (behind n g) blocks
  inside j i b there under = let l = base_within (behind n g) j blocks b there in let e = first_is j in omega (arith, l, e, under)

  pub ahead : (a : ℕ) → a < (cell_count n + length g.uses) + 1 → a < total_from (behind n g) blocks
  ahead a under = let l = total_low (behind n g) blocks in omega (arith, l, under)

  one : (j l i k : ℕ) (b c : Block) → slice_get blocks j ≡ Some b → slice_get blocks l ≡ Some c → i < block_size b → k < block_size c → first j + i ≡ first l + k → (j ≡ l) × (i ≡ k)
  one j l i k b c h f under over e =
      let p = first_is j in
      let q = first_is l in
      one_block (behind n g) j l i k blocks b c h f under over (omega (arith, e, p, q))

  same_block : (j l : ℕ) (b c : Block) → slice_get blocks j ≡ Some b → slice_get blocks l ≡ Some c → j ≡ l → b ≡ c
  same_block j l b c h f e = some_same b c (sym h ∙ ap (slice_get blocks) e ∙ f)

  from_edge : (a b : ℕ) → a < total_from (behind n g) blocks → IsEdge a b → Origin n g blocks s.bases a b
  from_edge a b under e = origin n g blocks s.bases a b ((edges.edges.are a b under).0 e)

  -- ---- what numbers are too high or too low for

  use_low : (a b : ℕ) → OfUse n g blocks s.bases a b → a < cell_count n + length g.uses
  use_low a b u = let l = get_within g.uses u.number u.used u.at in let e = u.from in omega (arith, l, e)

  use_high : (a b : ℕ) → OfUse n g blocks s.bases a b → cell_count n ≤ a
  use_high a b u = let e = u.from in omega (arith, e)

  context_in : (a b : ℕ) → OfContext n g blocks s.bases a b → (cell_count n + length g.uses) + 1 ≤ a
  context_in a b c = let l = low c.node c.block c.stands.there in let e = c.from in omega (arith, l, e)

  statement_in : (a b : ℕ) → OfStatement n g blocks s.bases a b → (cell_count n + length g.uses) + 1 ≤ a
  statement_in a b c = let l = low c.node c.block c.stands.there in let e = c.from in omega (arith, l, e)

  cell_low : (a b : ℕ) → OfCell n g blocks s.bases a b → a < cell_count n
  cell_low a b c = are.low_cells c.node c.name a c.block c.stands c.from

  step_in : (a b : ℕ) → OfStep n g blocks s.bases a b → (cell_count n + length g.uses) + 1 ≤ a
  step_in a b c = let d = are.below c.node c.name c.below c.leads in let l = low c.below d.0 d.1 in let e = c.from in omega (arith, l, e)

  too_low : {A : Type 0} (a : ℕ) → a < cell_count n + length g.uses → (cell_count n + length g.uses) + 1 ≤ a → A
  too_low a l h = absurd (omega (arith, l, h))

  -- ---- cells and uses

  pub cell_from : (a b : ℕ) → a < cell_count n → IsEdge a b → OfCell n g blocks s.bases a b
  cell_from a b under e =
      let less : a < cell_count n + length g.uses = omega (arith, under) in
      ⊎_elim
      (λ u. let h = use_high a b u in absurd (omega (arith, under, h)))
      (λ r.
      ⊎_elim
      (λ c. too_low a less (context_in a b c))
      (λ r2. ⊎_elim (λ c. too_low a less (statement_in a b c)) (λ r3. ⊎_elim (λ c. c) (λ c. too_low a less (step_in a b c)) r3) r2)
      r)
      (from_edge a b (ahead a (omega (arith, under))) e)

  pub from_cell : (a b : ℕ) → a < cell_count n → OfCell n g blocks s.bases a b → IsEdge a b
  from_cell a b under c = (edges.edges.are a b (ahead a (omega (arith, under)))).1 (cell_edge n g blocks s.bases a b c)

  pub use_from : (i b : ℕ) → i < length g.uses → IsEdge (cell_count n + i) b → OfUse n g blocks s.bases (cell_count n + i) b
  use_from i b under e =
      let a : ℕ = cell_count n + i in
      let less : a < cell_count n + length g.uses = omega (arith, under) in
      ⊎_elim
      (λ u. u)
      (λ r.
      ⊎_elim
      (λ c. too_low a less (context_in a b c))
      (λ r2. ⊎_elim (λ c. too_low a less (statement_in a b c)) (λ r3. ⊎_elim (λ c. let l = cell_low a b c in absurd (omega (arith, l))) (λ c. too_low a less (step_in a b c)) r3) r2)
      r)
      (from_edge a b (ahead a (omega (arith, under))) e)

  pub from_use : (i b : ℕ) → i < length g.uses → OfUse n g blocks s.bases (cell_count n + i) b → IsEdge (cell_count n + i) b
  from_use i b under u = (edges.edges.are (cell_count n + i) b (ahead (cell_count n + i) (omega (arith, under)))).1 (use_edge n g blocks s.bases (cell_count n + i) b u)

  -- ---- the numbers of a block

  abbrev pub Reads : ℕ → List ℕ → ℕ → Type 0
  Reads j names b = ReadsTo n g blocks s.bases j names b

  module _ (j : ℕ) (blk : Block) (stands : In j blk) where
    pub record AtContext (i b : ℕ) : Type 0 where
      pub number : ℕ
      pub context : Context
      pub is : i ≡ number + 1
      pub at : slice_get blk.acts.contexts number ≡ Some context
      pub to : (b ≡ first j + context.around) ⊎ Reads j context.reads b

    pub record AtStatement (i b : ℕ) : Type 0 where
      pub number : ℕ
      pub statement : WritingStatement
      pub is : i ≡ (length blk.acts.contexts + 1) + number
      pub at : slice_get blk.acts.acts number ≡ Some (Writes statement)
      pub to : (b ≡ first j + statement.around) ⊎ Reads j statement.reads b

    pub record AtStep (i b : ℕ) : Type 0 where
      pub is : i ≡ 0
      pub step : OfStep n g blocks s.bases (first j) b
      pub below : step.below ≡ j

    context_at : (i b : ℕ) → i < block_size blk → OfContext n g blocks s.bases (first j + i) b → AtContext i b
    context_at i b under c =
        let l = get_within c.block.acts.contexts c.number c.context c.at in
        let e = one j c.node i (c.number + 1) blk c.block stands.there c.stands.there under (omega (arith, l)) c.from in
        let same = same_block j c.node blk c.block stands.there c.stands.there e.0 in
        record {
          number = c.number;
          context = c.context;
          is = e.1;
          at = ap (λ (x : Block). slice_get x.acts.contexts c.number) same ∙ c.at;
          to = ⊎_elim (λ out. inl (out ∙ ap (λ k. first k + c.context.around) (sym e.0))) (λ own. inr (subst (λ k. Reads k c.context.reads b) (sym e.0) own)) c.to;
        }

    statement_at : (i b : ℕ) → i < block_size blk → OfStatement n g blocks s.bases (first j + i) b → AtStatement i b
    statement_at i b under c =
        let l = get_within c.block.acts.acts c.number (Writes c.statement) c.at in
        let from = c.from in
        let e = one j c.node i ((length c.block.acts.contexts + 1) + c.number) blk c.block stands.there c.stands.there under (omega (arith, l)) (omega (arith, from)) in
        let same = same_block j c.node blk c.block stands.there c.stands.there e.0 in
        record {
          number = c.number;
          statement = c.statement;
          is = e.1 ∙ ap (λ (x : Block). (length x.acts.contexts + 1) + c.number) (sym same);
          at = ap (λ (x : Block). slice_get x.acts.acts c.number) same ∙ c.at;
          to = ⊎_elim (λ out. inl (out ∙ ap (λ k. first k + c.statement.around) (sym e.0))) (λ own. inr (subst (λ k. Reads k c.statement.reads b) (sym e.0) own)) c.to;
        }

    step_at : (i b : ℕ) → i < block_size blk → OfStep n g blocks s.bases (first j + i) b → AtStep i b
    step_at i b under c =
        let d = are.below c.node c.name c.below c.leads in
        let from = c.from in
        let e = one j c.below i 0 blk d.0 stands.there d.1 under (omega arith) (omega (arith, from)) in
        record {
          is = e.1;
          step = record {
            node = c.node;
            block = c.block;
            stands = c.stands;
            number = c.number;
            name = c.name;
            around = c.around;
            at = c.at;
            below = c.below;
            leads = c.leads;
            from = ap first e.0;
            to = c.to;
          };
          below = sym e.0;
        }

    pub in_block : (i b : ℕ) → i < block_size blk → IsEdge (first j + i) b → AtContext i b ⊎ (AtStatement i b ⊎ AtStep i b)
    in_block i b under e =
        let h = low j blk stands.there in
        ⊎_elim
        (λ u. let l = use_low (first j + i) b u in absurd (omega (arith, h, l)))
        (λ r.
        ⊎_elim
        (λ c. inl (context_at i b under c))
        (λ r2.
        ⊎_elim
        (λ c. inr (inl (statement_at i b under c)))
        (λ r3. ⊎_elim (λ c. let l = cell_low (first j + i) b c in absurd (omega (arith, h, l))) (λ c. inr (inr (step_at i b under c))) r3)
        r2)
        r)
        (from_edge (first j + i) b (inside j i blk stands.there under) e)

    pub from_context : (a b : ℕ) → a < block_size blk → OfContext n g blocks s.bases (first j + a) b → IsEdge (first j + a) b
    from_context a b under c = (edges.edges.are (first j + a) b (inside j a blk stands.there under)).1 (context_edge n g blocks s.bases (first j + a) b c)

    pub from_statement : (a b : ℕ) → a < block_size blk → OfStatement n g blocks s.bases (first j + a) b → IsEdge (first j + a) b
    from_statement a b under c = (edges.edges.are (first j + a) b (inside j a blk stands.there under)).1 (statement_edge n g blocks s.bases (first j + a) b c)

    pub from_step : (a b : ℕ) → a < block_size blk → OfStep n g blocks s.bases (first j + a) b → IsEdge (first j + a) b
    from_step a b under c = (edges.edges.are (first j + a) b (inside j a blk stands.there under)).1 (step_edge n g blocks s.bases (first j + a) b c)
