-- The edges of the graph of a tree, each with what it comes from.
use Rattle.std.proofs.Common.{◌≡◌, ℕ, ◌+◌, Bool, true, false, List, [], ◌∷◌, ◌++◌, length, Option, Some, None, refl, ap, sym, subst, ◌⊎◌, inl, inr, ⊎_elim}
use Rattle.std.specs.Prelude.{slice_get, slice_index_or, if◌then◌else◌}
use Rattle.uc_declared_types.specs.AliasLaw.{IsAmong}
use Rattle.uc_declared_types.proofs.Among.{among_left, among_right, among_split}
use Rattle.uc_uses.specs.declared.tree.Step.{Step}
use Rattle.uc_uses.specs.Trees.{instance_at, step}
use Rattle.uc_uses.specs.declared.use_graph_graph.UseGraph.{UseGraph}
use Rattle.uc_step_cycles.specs.declared.acts.Act.{Act}
use Rattle.uc_step_cycles.specs.declared.acts.Act.TheVariants.{Writes, Steps}
use Rattle.uc_step_cycles.specs.declared.acts.Context.{Context}
use Rattle.uc_step_cycles.specs.declared.acts.Writing.{Writing as WritingStatement}
use Rattle.uc_step_cycles.specs.declared.stepped_blocks.Block.{Block}
use Rattle.uc_step_cycles.specs.declared.numbers.Names.{Names}
use Rattle.uc_step_cycles.specs.Edges.{Edge, edges_from, edges_to}
use Rattle.uc_step_cycles.specs.StepEdgesNumbers.{cell_at, cell_count, read_node}
use Rattle.uc_step_cycles.specs.Building.{act_edges, acts_edges, all_edges, block_edges, blocks_edges, context_edges, contexts_edges, into, names_edges, reads_edges, spot, step_edges, stepped_edges, use_edges, used_edges, uses_edges, writes_edges, writing_edges}
use Rattle.uc_step_cycles.proofs.Lists.{among_one, one_among, none_among, none_some, some_same, among_get, get_among, each_back, each_there}

abbrev edge : ℕ → ℕ → Edge
edge a b = (a, b)

-- ---- an edge to a node or from one, if it is there

edge_from : (from : ℕ) (o : Option ℕ) (a b : ℕ) → IsAmong (a, b) (edges_from from o) → (a ≡ from) × (o ≡ Some b)
edge_from from None a b h = none_among (a, b) h
edge_from from (Some c) a b h = let e = among_one (a, b) (from, c) h in (ap (λ (p : Edge). p.0) e, ap (λ (p : Edge). Some p.1) (sym e))

from_edge : (from : ℕ) (o : Option ℕ) (a b : ℕ) → a ≡ from → o ≡ Some b → IsAmong (a, b) (edges_from from o)
from_edge from None a b e f = none_some b f
from_edge from (Some c) a b e f = let g = sym (some_same c b f) in one_among (a, b) (from, c) (λ i. (e i, g i))

edge_to : (to : ℕ) (o : Option ℕ) (a b : ℕ) → IsAmong (a, b) (edges_to to o) → (b ≡ to) × (o ≡ Some a)
edge_to to None a b h = none_among (a, b) h
edge_to to (Some c) a b h = let e = among_one (a, b) (c, to) h in (ap (λ (p : Edge). p.1) e, ap (λ (p : Edge). Some p.0) (sym e))

to_edge : (to : ℕ) (o : Option ℕ) (a b : ℕ) → b ≡ to → o ≡ Some a → IsAmong (a, b) (edges_to to o)
to_edge to None a b e f = none_some a f
to_edge to (Some c) a b e f = let g = sym (some_same c a f) in one_among (a, b) (c, to) (λ i. (g i, e i))

pair_edge : (a b from to : ℕ) → IsAmong (a, b) (edge from to ∷ []) → (a ≡ from) × (b ≡ to)
pair_edge a b from to h = let e = among_one (a, b) (edge from to) h in (ap (λ (p : Edge). p.0) e, ap (λ (p : Edge). p.1) e)

edge_pair : (a b from to : ℕ) → a ≡ from → b ≡ to → IsAmong (a, b) (edge from to ∷ [])
edge_pair a b from to e f = one_among (a, b) (edge from to) (λ i. (e i, f i))

module _ (n : Names) (g : UseGraph) (blocks : List Block) (bases : List ℕ) where
  abbrev pub base : ℕ → ℕ
  base j = slice_index_or bases j 0

  abbrev pub first_act : ℕ → Block → ℕ
  first_act j b = base j + (length b.acts.contexts + 1)

  -- the block of a node, which is stepped
  pub record StandsIn (j : ℕ) (b : Block) : Type 0 where
    pub there : slice_get blocks j ≡ Some b
    pub stepped : b.is_stepped ≡ true

  -- a name that is read primed in a node has the number
  abbrev pub ReadsTo : ℕ → List ℕ → ℕ → Type 0
  ReadsTo j names b = (x : ℕ) × IsAmong x names × (read_node n (step j x) ≡ Some b)

  pub record OfUse (a b : ℕ) : Type 0 where
    pub number : ℕ
    pub used : List ℕ
    pub at : slice_get g.uses number ≡ Some used
    pub from : a ≡ cell_count n + number
    pub to : ((l : ℕ) × IsAmong l used × (b ≡ cell_count n + l)) ⊎ ((s : Step) × IsAmong s (slice_index_or g.names number []) × (cell_at n s ≡ Some b))

  pub record OfContext (a b : ℕ) : Type 0 where
    pub node : ℕ
    pub block : Block
    pub stands : StandsIn node block
    pub number : ℕ
    pub context : Context
    pub at : slice_get block.acts.contexts number ≡ Some context
    pub from : a ≡ base node + (number + 1)
    pub to : (b ≡ base node + context.around) ⊎ ReadsTo node context.reads b

  pub record OfStatement (a b : ℕ) : Type 0 where
    pub node : ℕ
    pub block : Block
    pub stands : StandsIn node block
    pub number : ℕ
    pub statement : WritingStatement
    pub at : slice_get block.acts.acts number ≡ Some (Writes statement)
    pub from : a ≡ first_act node block + number
    pub to : (b ≡ base node + statement.around) ⊎ ReadsTo node statement.reads b

  pub record OfCell (a b : ℕ) : Type 0 where
    pub node : ℕ
    pub block : Block
    pub stands : StandsIn node block
    pub number : ℕ
    pub statement : WritingStatement
    pub at : slice_get block.acts.acts number ≡ Some (Writes statement)
    pub name : ℕ
    pub among : IsAmong name statement.written
    pub from : cell_at n (step node name) ≡ Some a
    pub to : b ≡ first_act node block + number

  pub record OfStep (a b : ℕ) : Type 0 where
    pub node : ℕ
    pub block : Block
    pub stands : StandsIn node block
    pub number : ℕ
    pub name : ℕ
    pub around : ℕ
    pub at : slice_get block.acts.acts number ≡ Some (Steps name around)
    pub below : ℕ
    pub leads : instance_at n.tree.now node name ≡ Some (Some below)
    pub from : a ≡ base below
    pub to : b ≡ base node + around

  abbrev pub Origin : ℕ → ℕ → Type 0
  Origin a b = OfUse a b ⊎ (OfContext a b ⊎ (OfStatement a b ⊎ (OfCell a b ⊎ OfStep a b)))

  -- ---- an edge has an origin

  abbrev read_edges : ℕ → ℕ → ℕ → ℕ → List Edge
  read_edges j from k x = edges_from from (read_node n (step j x))

  reads_to : (j from : ℕ) (names : List ℕ) (a b : ℕ) → IsAmong (a, b) (reads_edges n j from names) → (a ≡ from) × ReadsTo j names b
  reads_to j from names a b h =
      let i = each_back (read_edges j from) (a, b) names h in
      let e = edge_from from (read_node n (step j i.1)) a b i.3 in
      (e.0, (i.1, get_among names i.0 i.1 i.2, e.1))

  use_origin : (a b : ℕ) → IsAmong (a, b) (uses_edges n (cell_count n) g.names g.uses) → OfUse a b
  use_origin a b h =
      let i = each_back (use_edges n (cell_count n) g.names) (a, b) g.uses h in
      by i.0 i.1 i.2 (among_split (a, b) (used_edges (cell_count n) (cell_count n + i.0) i.1) (names_edges n (cell_count n + i.0) (slice_index_or g.names i.0 [])) i.3)
    where
      by : (k : ℕ) (used : List ℕ) → slice_get g.uses k ≡ Some used → IsAmong (a, b) (used_edges (cell_count n) (cell_count n + k) used) ⊎ IsAmong (a, b) (names_edges n (cell_count n + k) (slice_index_or g.names k [])) → OfUse a b
      by k used at h =
          ⊎_elim
          (λ u.
          let l = each_back (λ (m l : ℕ). edge (cell_count n + k) (cell_count n + l) ∷ []) (a, b) used u in
          let e = pair_edge a b (cell_count n + k) (cell_count n + l.1) l.3 in
          record { number = k; used = used; at = at; from = e.0; to = inl (l.1, get_among used l.0 l.1 l.2, e.1) })
          (λ c.
          let s = each_back (λ (m : ℕ) (s : Step). edges_from (cell_count n + k) (cell_at n s)) (a, b) (slice_index_or g.names k []) c in
          let e = edge_from (cell_count n + k) (cell_at n s.1) a b s.3 in
          record { number = k; used = used; at = at; from = e.0; to = inr (s.1, get_among (slice_index_or g.names k []) s.0 s.1 s.2, e.1) })
          h

  module _ (j : ℕ) (blk : Block) (stands : StandsIn j blk) where
    context_origin : (a b : ℕ) → IsAmong (a, b) (contexts_edges n (spot j (base j)) blk.acts.contexts) → OfContext a b
    context_origin a b h =
        let i = each_back (context_edges n (spot j (base j))) (a, b) blk.acts.contexts h in
        by i.0 i.1 i.2 (among_split (a, b) (edge (base j + (i.0 + 1)) (base j + i.1.around) ∷ []) (reads_edges n j (base j + (i.0 + 1)) i.1.reads) i.3)
      where
        by : (k : ℕ) (c : Context) → slice_get blk.acts.contexts k ≡ Some c → IsAmong (a, b) (edge (base j + (k + 1)) (base j + c.around) ∷ []) ⊎ IsAmong (a, b) (reads_edges n j (base j + (k + 1)) c.reads) → OfContext a b
        by k c at h =
            ⊎_elim
            (λ out. let e = pair_edge a b (base j + (k + 1)) (base j + c.around) out in record { node = j; block = blk; stands = stands; number = k; context = c; at = at; from = e.0; to = inl e.1 })
            (λ own. let e = reads_to j (base j + (k + 1)) c.reads a b own in record { node = j; block = blk; stands = stands; number = k; context = c; at = at; from = e.0; to = inr e.1 })
            h

    abbrev Done : ℕ → ℕ → Type 0
    Done a b = OfStatement a b ⊎ (OfCell a b ⊎ OfStep a b)

    writing_origin : (a b i : ℕ) (w : WritingStatement) → slice_get blk.acts.acts i ≡ Some (Writes w) → IsAmong (a, b) (writing_edges n (spot j (base j)) (first_act j blk + i) w) → Done a b
    writing_origin a b i w at h =
        ⊎_elim
        (λ out. let e = pair_edge a b (first_act j blk + i) (base j + w.around) out in inl (record { node = j; block = blk; stands = stands; number = i; statement = w; at = at; from = e.0; to = inl e.1 }))
        (λ r.
        ⊎_elim
        (λ own. let e = reads_to j (first_act j blk + i) w.reads a b own in inl (record { node = j; block = blk; stands = stands; number = i; statement = w; at = at; from = e.0; to = inr e.1 }))
        (λ cell.
        let x = each_back (λ (k x : ℕ). edges_to (first_act j blk + i) (cell_at n (step j x))) (a, b) w.written cell in
        let e = edge_to (first_act j blk + i) (cell_at n (step j x.1)) a b x.3 in
        inr (inl (record { node = j; block = blk; stands = stands; number = i; statement = w; at = at; name = x.1; among = get_among w.written x.0 x.1 x.2; from = e.1; to = e.0 })))
        (among_split (a, b) (reads_edges n j (first_act j blk + i) w.reads) (writes_edges n j (first_act j blk + i) w.written) r))
        (among_split (a, b) (edge (first_act j blk + i) (base j + w.around) ∷ []) (reads_edges n j (first_act j blk + i) w.reads ++ writes_edges n j (first_act j blk + i) w.written) h)

    step_origin : (a b i x k : ℕ) → slice_get blk.acts.acts i ≡ Some (Steps x k) → IsAmong (a, b) (step_edges n bases (spot j (base j)) x k) → Done a b
    step_origin a b i x k at h = by (instance_at n.tree.now j x) refl h
      where
        by : (o : Option (Option ℕ)) → instance_at n.tree.now j x ≡ o → IsAmong (a, b) (into bases (base j + k) o) → Done a b
        by None is h = none_among (a, b) h
        by (Some None) is h = none_among (a, b) h
        by (Some (Some l)) is h =
            let e = pair_edge a b (base l) (base j + k) h in
            inr (inr (record { node = j; block = blk; stands = stands; number = i; name = x; around = k; at = at; below = l; leads = is; from = e.0; to = e.1 }))

    act_origin : (a b i : ℕ) (act : Act) → slice_get blk.acts.acts i ≡ Some act → IsAmong (a, b) (act_edges n bases (spot j (base j)) (first_act j blk + i) act) → Done a b
    act_origin a b i (Writes w) at h = writing_origin a b i w at h
    act_origin a b i (Steps x k) at h = step_origin a b i x k at h

    stepped_origin : (a b : ℕ) → IsAmong (a, b) (stepped_edges n bases (spot j (base j)) blk) → Origin a b
    stepped_origin a b h =
        ⊎_elim
        (λ c. inr (inl (context_origin a b c)))
        (λ r.
        let i = each_back (λ (k : ℕ) (act : Act). act_edges n bases (spot j (base j)) (first_act j blk + k) act) (a, b) blk.acts.acts r in
        inr (inr (act_origin a b i.0 i.1 i.2 i.3)))
        (among_split (a, b) (contexts_edges n (spot j (base j)) blk.acts.contexts) (acts_edges n bases (spot j (base j)) (first_act j blk) blk.acts.acts) h)

  block_origin : (a b j : ℕ) (blk : Block) → slice_get blocks j ≡ Some blk → IsAmong (a, b) (block_edges n bases j blk) → Origin a b
  block_origin a b j blk there h = by blk.is_stepped refl h
    where
      by : (c : Bool) → blk.is_stepped ≡ c → IsAmong (a, b) (if c then stepped_edges n bases (spot j (base j)) blk else []) → Origin a b
      by true is h = stepped_origin j blk (record { there = there; stepped = is }) a b h
      by false is h = none_among (a, b) h

  pub origin : (a b : ℕ) → IsAmong (a, b) (all_edges n g bases blocks) → Origin a b
  origin a b h =
      ⊎_elim
      (λ u. inl (use_origin a b u))
      (λ r. let j = each_back (block_edges n bases) (a, b) blocks r in block_origin a b j.0 j.1 j.2 j.3)
      (among_split (a, b) (uses_edges n (cell_count n) g.names g.uses) (blocks_edges n bases blocks) h)

  -- ---- an origin has its edge

  to_reads : (j from : ℕ) (names : List ℕ) (a b : ℕ) → a ≡ from → ReadsTo j names b → IsAmong (a, b) (reads_edges n j from names)
  to_reads j from names a b e r =
      let i = among_get names r.0 r.1 in
      each_there (read_edges j from) (a, b) i.0 names r.0 i.1 (from_edge from (read_node n (step j r.0)) a b e r.2)

  pub use_edge : (a b : ℕ) → OfUse a b → IsAmong (a, b) (all_edges n g bases blocks)
  use_edge a b u =
      let from : ℕ = cell_count n + u.number in
      let all : List Edge = used_edges (cell_count n) from u.used ++ names_edges n from (slice_index_or g.names u.number []) in
      let here : IsAmong (a, b) all =
      ⊎_elim
      (λ l.
      let i = among_get u.used l.0 l.1 in
      among_left (a, b) (used_edges (cell_count n) from u.used) (names_edges n from (slice_index_or g.names u.number []))
      (each_there (λ (m l : ℕ). edge from (cell_count n + l) ∷ []) (a, b) i.0 u.used l.0 i.1 (edge_pair a b from (cell_count n + l.0) u.from l.2)))
      (λ s.
      let i = among_get (slice_index_or g.names u.number []) s.0 s.1 in
      among_right (a, b) (used_edges (cell_count n) from u.used) (names_edges n from (slice_index_or g.names u.number []))
      (each_there (λ (m : ℕ) (s : Step). edges_from from (cell_at n s)) (a, b) i.0 (slice_index_or g.names u.number []) s.0 i.1 (from_edge from (cell_at n s.0) a b u.from s.2)))
      u.to in
      among_left (a, b) (uses_edges n (cell_count n) g.names g.uses) (blocks_edges n bases blocks) (each_there (use_edges n (cell_count n) g.names) (a, b) u.number g.uses u.used u.at here)

  block_edge : (a b j : ℕ) (blk : Block) → StandsIn j blk → IsAmong (a, b) (stepped_edges n bases (spot j (base j)) blk) → IsAmong (a, b) (all_edges n g bases blocks)
  block_edge a b j blk stands h =
      let here : IsAmong (a, b) (block_edges n bases j blk) = subst (λ c. IsAmong (a, b) (if c then stepped_edges n bases (spot j (base j)) blk else [])) (sym stands.stepped) h in
      among_right (a, b) (uses_edges n (cell_count n) g.names g.uses) (blocks_edges n bases blocks) (each_there (block_edges n bases) (a, b) j blocks blk stands.there here)

  pub context_edge : (a b : ℕ) → OfContext a b → IsAmong (a, b) (all_edges n g bases blocks)
  context_edge a b c =
      let j = c.node in
      let from : ℕ = base j + (c.number + 1) in
      let here : IsAmong (a, b) (context_edges n (spot j (base j)) c.number c.context) =
      ⊎_elim
      (λ out. among_left (a, b) (edge from (base j + c.context.around) ∷ []) (reads_edges n j from c.context.reads) (edge_pair a b from (base j + c.context.around) c.from out))
      (λ own. among_right (a, b) (edge from (base j + c.context.around) ∷ []) (reads_edges n j from c.context.reads) (to_reads j from c.context.reads a b c.from own))
      c.to in
      block_edge a b j c.block c.stands
      (among_left (a, b) (contexts_edges n (spot j (base j)) c.block.acts.contexts) (acts_edges n bases (spot j (base j)) (first_act j c.block) c.block.acts.acts)
      (each_there (context_edges n (spot j (base j))) (a, b) c.number c.block.acts.contexts c.context c.at here))

  doing_edge : (a b j : ℕ) (blk : Block) → StandsIn j blk → (i : ℕ) (act : Act) → slice_get blk.acts.acts i ≡ Some act → IsAmong (a, b) (act_edges n bases (spot j (base j)) (first_act j blk + i) act) → IsAmong (a, b) (all_edges n g bases blocks)
  doing_edge a b j blk stands i act at h =
      block_edge a b j blk stands
      (among_right (a, b) (contexts_edges n (spot j (base j)) blk.acts.contexts) (acts_edges n bases (spot j (base j)) (first_act j blk) blk.acts.acts)
      (each_there (λ (k : ℕ) (act : Act). act_edges n bases (spot j (base j)) (first_act j blk + k) act) (a, b) i blk.acts.acts act at h))

  pub statement_edge : (a b : ℕ) → OfStatement a b → IsAmong (a, b) (all_edges n g bases blocks)
  statement_edge a b s =
      let j = s.node in
      let d : ℕ = first_act j s.block + s.number in
      let w = s.statement in
      let here : IsAmong (a, b) (writing_edges n (spot j (base j)) d w) =
      ⊎_elim
      (λ out. among_left (a, b) (edge d (base j + w.around) ∷ []) (reads_edges n j d w.reads ++ writes_edges n j d w.written) (edge_pair a b d (base j + w.around) s.from out))
      (λ own.
      among_right (a, b) (edge d (base j + w.around) ∷ []) (reads_edges n j d w.reads ++ writes_edges n j d w.written)
      (among_left (a, b) (reads_edges n j d w.reads) (writes_edges n j d w.written) (to_reads j d w.reads a b s.from own)))
      s.to in
      doing_edge a b j s.block s.stands s.number (Writes w) s.at here

  pub cell_edge : (a b : ℕ) → OfCell a b → IsAmong (a, b) (all_edges n g bases blocks)
  cell_edge a b s =
      let j = s.node in
      let d : ℕ = first_act j s.block + s.number in
      let w = s.statement in
      let i = among_get w.written s.name s.among in
      let here : IsAmong (a, b) (writing_edges n (spot j (base j)) d w) =
      among_right (a, b) (edge d (base j + w.around) ∷ []) (reads_edges n j d w.reads ++ writes_edges n j d w.written)
      (among_right (a, b) (reads_edges n j d w.reads) (writes_edges n j d w.written)
      (each_there (λ (k x : ℕ). edges_to d (cell_at n (step j x))) (a, b) i.0 w.written s.name i.1 (to_edge d (cell_at n (step j s.name)) a b s.to s.from))) in
      doing_edge a b j s.block s.stands s.number (Writes w) s.at here

  pub step_edge : (a b : ℕ) → OfStep a b → IsAmong (a, b) (all_edges n g bases blocks)
  step_edge a b s =
      let j = s.node in
      doing_edge a b j s.block s.stands s.number (Steps s.name s.around) s.at
      (subst (λ o. IsAmong (a, b) (into bases (base j + s.around) o)) (sym s.leads) (edge_pair a b (base s.below) (base j + s.around) s.from s.to))
