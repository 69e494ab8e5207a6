-- The graph of a tree has the edges that are asked of it.
use Rattle.std.proofs.Common.{◌≡◌, ◌↔◌, ℕ, zero, suc, ◌+◌, ◌<◌, ◌≤◌, true, false, List, [], ◌∷◌, ◌++◌, map, length, Option, Some, None, refl, ap, sym, subst, ◌∙◌, ◌⊎◌, inl, inr, ⊎_elim, arith}
use Rattle.std.specs.Prelude.{if◌then◌else◌, is_some, slice_get, slice_index_or, unwrap_or}
use Rattle.std.specs.Option.{option_and_then, option_map}
use Rattle.uc_syntax.specs.declared.declaration.Module.{Module}
use Rattle.uc_meaning.specs.Lookup.{System}
use Rattle.uc_meaning.specs.Cells.{Cell, as_list, cells_of}
use Rattle.uc_meaning.specs.Code.{written_cell}
use Rattle.uc_meaning.specs.Expressions.{binding_of}
use Rattle.uc_declared_types.specs.AliasLaw.{IsAmong}
use Rattle.uc_declared_types.proofs.Among.{among_back, among_flat}
use Rattle.uc_graph.specs.Order.{has, needs}
use Rattle.uc_graph.specs.Cycles.{LiesOnCycle}
use Rattle.uc_order_rules.specs.Roots.{name_at, is_bound_input}
use Rattle.uc_order_rules.specs.Uses.{UsedInput}
use Rattle.uc_order_rules.specs.Reads.{binding_reads, cells_read, name_reads}
use Rattle.uc_order_rules.specs.Dependence.{on_step_cycle}
use Rattle.uc_order_rules.specs.Passages.{Passes}
use Rattle.uc_uses.specs.declared.tree.Node.{Node}
use Rattle.uc_uses.specs.declared.tree.InstanceTree.{InstanceTree}
use Rattle.uc_uses.specs.Trees.{code_at, instance_at, joined, node_at, step}
use Rattle.uc_uses.specs.declared.uses.UseKind.TheVariants.{Input}
use Rattle.uc_uses.specs.declared.table.UseTable.{UseTable}
use Rattle.uc_uses.specs.declared.use_graph_graph.UseGraph.{UseGraph}
use Rattle.uc_uses.specs.Tables.{number, use_name}
use Rattle.uc_uses.specs.Resolving.{all_source_uses}
use Rattle.uc_uses.specs.Numbers.{number_of as number_of_use}
use Rattle.uc_uses.proofs.Texts.{inputs}
use Rattle.uc_step_cycles.specs.declared.table.CellTable.{CellTable}
use Rattle.uc_step_cycles.specs.CellNumbersNumbers.{number_at, number_of}
use Rattle.uc_step_cycles.specs.InputWays.{IsUseGraph, UseEdge}
use Rattle.uc_step_cycles.proofs.Leading.{inputs_lead_to_cells}
use Rattle.uc_step_cycles.specs.declared.acts.Act.{Act}
use Rattle.uc_step_cycles.specs.declared.acts.Act.TheVariants.{Writes, Steps}
use Rattle.uc_step_cycles.specs.declared.acts.Acts.{Acts}
use Rattle.uc_step_cycles.specs.declared.acts.Writing.{Writing as WritingStatement}
use Rattle.uc_step_cycles.specs.Stepping.{IsStepped, written_at}
use Rattle.uc_step_cycles.proofs.Visits.{stepped_visit, visit_module}
use Rattle.uc_step_cycles.specs.Graphs.{AroundEdge, CellEdge, DoingEdge, IsStepGraph, LeadsToCell, Nodes, ReadsNode}
use Rattle.uc_step_cycles.proofs.Carried.{graphs_carry_steps}
use Rattle.uc_step_cycles.specs.declared.stepped_blocks.Block.{Block}
use Rattle.uc_step_cycles.specs.StepLaw.{FollowsSteps, acts_at, acts_in}
use Rattle.uc_step_cycles.proofs.SteppedBlocksFollowed.{steps_are_followed}
use Rattle.uc_step_cycles.specs.declared.numbers.Names.{Names}
use Rattle.uc_step_cycles.specs.declared.graph.StepGraph.{StepGraph}
use Rattle.uc_step_cycles.specs.StepEdgesNumbers.{cell_at, cell_count, or_cell, read_node}
use Rattle.uc_step_cycles.specs.Ties.{CyclesAreNumbered, GraphsAreTied, IsRootGraph, base_at, nodes_of, using_of}
use Rattle.uc_step_cycles.proofs.Lists.{among_get, among_has, as_list_is, get_among, get_index, get_within, has_among, is_as_list, none_some, some_same, there_below}
use Rattle.uc_step_cycles.proofs.Origins.{ReadsTo, StandsIn}
use Rattle.uc_step_cycles.proofs.InBlocks.{AreNodes, AtContext, AtStatement, AtStep, cell_from, from_cell, from_context, from_statement, from_step, from_use, in_block, low, use_from}
use Rattle.uc_step_cycles.proofs.ReadCells.{cell_number, node_code, number_cell, numbers, paths, read_has, upper, written_has}

length_map : {A B : Type 0} (f : A → B) (xs : List A) → length (map f xs) ≡ length xs
length_map f [] = refl
length_map f (x ∷ xs) = ap suc (length_map f xs)

statement_same : (v w : WritingStatement) → Writes v ≡ Writes w → v ≡ w
statement_same v w h = cc

module _ (system : System) (n : Names) (g : UseGraph) (blocks : List Block) (s : StepGraph) (is : IsRootGraph system n g blocks s) where
  abbrev t : InstanceTree
  t = n.tree.now

  abbrev c : CellTable
  c = n.cells.now

  abbrev u : UseTable
  u = n.uses.now

  abbrev M : Module
  M = is.cells.root

  abbrev acts : List ℕ → Acts
  acts path = acts_at t blocks path

  pub follows : FollowsSteps system t blocks
  follows = steps_are_followed system t blocks M is.cells.is_root is.cells.tree is.cells.shallow is.acts

  abbrev Stepped : List ℕ → Type 0
  Stepped path = IsStepped system acts path

  abbrev In : ℕ → Block → Type 0
  In j b = StandsIn n g blocks s.bases j b

  abbrev base : ℕ → ℕ
  base j = slice_index_or s.bases j 0

  abbrev IsEdge : ℕ → ℕ → Type 0
  IsEdge a b = has (needs s.graph a) b ≡ true

  abbrev N : Nodes
  N = nodes_of system n blocks s

  -- ---- nodes and paths

  -- the node and the block of a path that is stepped
  pub record Here (path : List ℕ) : Type 0 where
    pub node : ℕ
    pub at : node_at t path ≡ Some node
    pub block : Block
    pub stands : In node block

  here_by : (path : List ℕ) → Stepped path → (m : Module) → option_and_then (code_at t) (node_at t path) ≡ Some m → Here path
  here_by path stepped m found = by_path (node_at t path) refl found
    where
      by_node : (j : ℕ) → node_at t path ≡ Some j → (o : Option Node) → slice_get t.nodes j ≡ o → option_map (λ (z : Node). z.code.now) o ≡ Some m → Here path
      by_node j at None is_node h = none_some m h
      by_node j at (Some z) is_node h =
          let b = is.acts.at j z is_node in
          record { node = j; at = at; block = b.0; stands = record { there = b.1; stepped = (follows.stepped path j b.0 at b.1).1 stepped } }

      by_path : (o : Option ℕ) → node_at t path ≡ o → option_and_then (code_at t) o ≡ Some m → Here path
      by_path None at h = none_some m h
      by_path (Some j) at h = by_node j at (slice_get t.nodes j) refl h

  pub here : (path : List ℕ) → Stepped path → Here path
  here path stepped =
      let v = stepped_visit system acts follows.known stepped.0 path stepped.1 in
      let m = visit_module system acts follows.known stepped.0 path v.0 v.1 in
      here_by path stepped m.0 ((paths system t c is.cells).codes path ∙ m.1)

  -- the path of a node whose block is stepped
  pub record There (j : ℕ) : Type 0 where
    pub path : List ℕ
    pub at : node_at t path ≡ Some j
    pub stepped : Stepped path

  pub there : (j : ℕ) (b : Block) → In j b → There j
  there j b stands =
      let within = get_within blocks j b stands.there in
      let count = is.acts.count in
      let z = there_below t.nodes j (omega (arith, within, count)) in
      let p = (paths system t c is.cells).reached j z.0.code.now (ap (option_map (λ (x : Node). x.code.now)) z.1) in
      record { path = p.0; at = p.1; stepped = (follows.stepped p.0 j b p.1 stands.there).0 stands.stepped }

  -- a node has one path
  one_path : (p q : List ℕ) (j : ℕ) → node_at t p ≡ Some j → node_at t q ≡ Some j → p ≡ q
  one_path p q j at also = let m = node_code system t c is.cells p j at in (paths system t c is.cells).alone p q j m.0 m.1 at also

  pub acts_is : (path : List ℕ) (j : ℕ) (b : Block) → node_at t path ≡ Some j → slice_get blocks j ≡ Some b → acts path ≡ b.acts
  acts_is path j b at found = ap (λ o. acts_in (option_and_then (slice_get blocks) o)) at ∙ ap acts_in found

  base_is : (path : List ℕ) (j : ℕ) → node_at t path ≡ Some j → base_at n s path ≡ base j
  base_is path j at = ap (λ o. slice_index_or s.bases (unwrap_or o 0) 0) at

  around_is : (path : List ℕ) (j k : ℕ) → node_at t path ≡ Some j → base_at n s path + k ≡ base j + k
  around_is path j k at = ap (λ m. m + k) (base_is path j at)

  doing_is : (path : List ℕ) (j k : ℕ) (b : Block) → node_at t path ≡ Some j → slice_get blocks j ≡ Some b → (base_at n s path + (length (acts path).contexts + 1)) + k ≡ (base j + (length b.acts.contexts + 1)) + k
  doing_is path j k b at found =
      let e = base_is path j at in
      let f = acts_is path j b at found in
      (λ i. (e i + (length (f i).contexts + 1)) + k)

  read_is : (path : List ℕ) (j x : ℕ) → node_at t path ≡ Some j → option_and_then (λ k. read_node n (step k x)) (node_at t path) ≡ read_node n (step j x)
  read_is path j x at = ap (option_and_then (λ k. read_node n (step k x))) at

  to_node : (path : List ℕ) (j : ℕ) (names : List ℕ) (b : ℕ) → node_at t path ≡ Some j → ReadsNode system acts s.graph N path names b → ReadsTo n g blocks s.bases j names b
  to_node path j names b at r = (r.0, r.1, sym (read_is path j r.0 at) ∙ r.2)

  from_node : (path : List ℕ) (j : ℕ) (names : List ℕ) (b : ℕ) → node_at t path ≡ Some j → ReadsTo n g blocks s.bases j names b → ReadsNode system acts s.graph N path names b
  from_node path j names b at r = (r.0, r.1, read_is path j r.0 at ∙ r.2)

  nodes_are : AreNodes n g blocks s.bases
  nodes_are = record {
    low_cells = λ j x a b stands at.
        let p = there j b stands in
        let y = number_cell system t c is.cells p.path j x a p.at at in
        (numbers system t c is.cells).within y.0 a y.2;
    below = λ j x l leads.
        let z = is.cells.tree.above j x l leads in
        let b = is.acts.at l z.0 z.1 in
        (b.0, b.1);
  }

  -- ---- cells

  cell_edge_to : (a b : ℕ) → a < cell_count n → IsEdge a b → CellEdge system acts s.graph N a b
  cell_edge_to a b under e =
      let o = cell_from n g blocks s is.edges nodes_are a b under e in
      let p = there o.node o.block o.stands in
      let y = number_cell system t c is.cells p.path o.node o.name a p.at o.from in
      record {
        path = p.path;
        act = o.number;
        statement = o.statement;
        stepped = p.stepped;
        there = ap (λ (x : Acts). slice_get x.acts o.number) (acts_is p.path o.node o.block p.at o.stands.there) ∙ o.at;
        cell = y.0;
        writes = among_flat (λ x. as_list (written_cell system p.path x)) o.name y.0 o.statement.written o.among (is_as_list y.0 (written_cell system p.path o.name) y.1);
        is_cell = y.2;
        is = o.to ∙ sym (doing_is p.path o.node o.number o.block p.at o.stands.there);
      }

  cell_edge_from : (a b : ℕ) → a < cell_count n → CellEdge system acts s.graph N a b → IsEdge a b
  cell_edge_from a b under e =
      let h = here e.path e.stepped in
      let x = among_back (λ x. as_list (written_cell system e.path x)) e.cell e.statement.written e.writes in
      let m = cell_number system t c is.cells e.path h.node x.0 e.cell h.at (as_list_is e.cell (written_cell system e.path x.0) x.2) in
      let same : m.0 ≡ a = some_same m.0 a (sym m.2 ∙ e.is_cell) in
      from_cell n g blocks s is.edges nodes_are a b under
      (record {
        node = h.node;
        block = h.block;
        stands = h.stands;
        number = e.act;
        statement = e.statement;
        at = ap (λ (y : Acts). slice_get y.acts e.act) (sym (acts_is e.path h.node h.block h.at h.stands.there)) ∙ e.there;
        name = x.0;
        among = x.1;
        from = m.1 ∙ ap (λ z. Some z) same;
        to = e.is ∙ doing_is e.path h.node e.act h.block h.at h.stands.there;
      })

  -- ---- conditions

  size_is : (path : List ℕ) (h : Here path) → length (acts path).contexts ≡ length h.block.acts.contexts
  size_is path h = ap (λ (x : Acts). length x.contexts) (acts_is path h.node h.block h.at h.stands.there)

  abbrev Context_at : (path : List ℕ) → Here path → ℕ → ℕ → Type 0
  Context_at path h k b = AtContext n g blocks s is.edges nodes_are h.node h.block h.stands k b

  abbrev Statement_at : (path : List ℕ) → Here path → ℕ → ℕ → Type 0
  Statement_at path h k b = AtStatement n g blocks s is.edges nodes_are h.node h.block h.stands k b

  abbrev Step_at : (path : List ℕ) → Here path → ℕ → ℕ → Type 0
  Step_at path h k b = AtStep n g blocks s is.edges nodes_are h.node h.block h.stands k b

  at_context : (path : List ℕ) (k b : ℕ) (h : Here path) → Context_at path h k b → AroundEdge system acts s.graph N path k b
  at_context path zero b h o = let e = o.is in absurd (omega (arith, e))
  at_context path (suc k) b h o =
      let f = o.is in
      let e : k ≡ o.number = omega (arith, f) in (
        o.context,
        ap (λ (x : Acts). slice_get x.contexts k) (acts_is path h.node h.block h.at h.stands.there) ∙ ap (slice_get h.block.acts.contexts) e ∙ o.at,
        ⊎_elim (λ out. inl (out ∙ sym (around_is path h.node o.context.around h.at))) (λ own. inr (from_node path h.node o.context.reads b h.at own)) o.to,
      )

  at_step : (path : List ℕ) (k b : ℕ) (h : Here path) → Step_at path h k b → AroundEdge system acts s.graph N path k b
  at_step path zero b h o =
      let d = o.step in
      let p = there d.node d.block d.stands in
      let leads : node_at t (p.path ++ d.name ∷ []) ≡ Some d.below = (paths system t c is.cells).last p.path d.name ∙ ap (option_and_then (λ k. joined (instance_at t k d.name))) p.at ∙ ap joined d.leads in
      let same = one_path path (p.path ++ d.name ∷ []) h.node h.at (leads ∙ ap (λ z. Some z) o.below) in (
        p.path,
        d.name,
        d.around,
        p.stepped,
        same,
        subst (λ (x : Acts). IsAmong (Steps d.name d.around) x.acts) (sym (acts_is p.path d.node d.block p.at d.stands.there)) (get_among d.block.acts.acts d.number (Steps d.name d.around) d.at),
        d.to ∙ sym (around_is p.path d.node d.around p.at),
      )
  at_step path (suc k) b h o = let e = o.is in absurd (omega (arith, e))

  around_edge_to : (path : List ℕ) (k b : ℕ) (h : Here path) → k ≤ length (acts path).contexts → IsEdge (base_at n s path + k) b → AroundEdge system acts s.graph N path k b
  around_edge_to path k b h fits e =
      let size = size_is path h in
      ⊎_elim
      (λ o. at_context path k b h o)
      (λ r. ⊎_elim (λ o. let i = o.is in absurd (omega (arith, fits, size, i))) (λ o. at_step path k b h o) r)
      (in_block n g blocks s is.edges nodes_are h.node h.block h.stands k b (omega (arith, fits, size)) (subst (λ a. IsEdge a b) (around_is path h.node k h.at) e))

  from_base : (path : List ℕ) (k b : ℕ) (h : Here path) → k ≤ length (acts path).contexts → AroundEdge system acts s.graph N path k b → IsEdge (base h.node + k) b
  from_base path zero b h fits e =
      let q = here e.0 e.3 in
      let i = among_get (acts e.0).acts (Steps e.1 e.2) e.5 in
      let up = upper system t c is.cells e.0 e.1 h.node (ap (node_at t) (sym e.4) ∙ h.at) in
      let same : up.0 ≡ q.node = some_same up.0 q.node (sym up.1 ∙ q.at) in
      from_step n g blocks s is.edges nodes_are h.node h.block h.stands 0 b (omega arith)
      (record {
        node = q.node;
        block = q.block;
        stands = q.stands;
        number = i.0;
        name = e.1;
        around = e.2;
        at = ap (λ (x : Acts). slice_get x.acts i.0) (sym (acts_is e.0 q.node q.block q.at q.stands.there)) ∙ i.1;
        below = h.node;
        leads = ap (λ k. instance_at t k e.1) (sym same) ∙ up.2;
        from = omega arith;
        to = e.6 ∙ around_is e.0 q.node e.2 q.at;
      })
  from_base path (suc k) b h fits e =
      let size = size_is path h in
      from_context n g blocks s is.edges nodes_are h.node h.block h.stands (suc k) b (omega (arith, fits, size))
      (record {
        node = h.node;
        block = h.block;
        stands = h.stands;
        number = k;
        context = e.0;
        at = ap (λ (x : Acts). slice_get x.contexts k) (sym (acts_is path h.node h.block h.at h.stands.there)) ∙ e.1;
        from = omega arith;
        to = ⊎_elim (λ out. inl (out ∙ around_is path h.node e.0.around h.at)) (λ own. inr (to_node path h.node e.0.reads b h.at own)) e.2;
      })

  around_edge_from : (path : List ℕ) (k b : ℕ) (h : Here path) → k ≤ length (acts path).contexts → AroundEdge system acts s.graph N path k b → IsEdge (base_at n s path + k) b
  around_edge_from path k b h fits e = subst (λ a. IsEdge a b) (sym (around_is path h.node k h.at)) (from_base path k b h fits e)

  -- ---- statements

  assoc : (a b k : ℕ) → (a + b) + k ≡ a + (b + k)
  assoc a b k = omega arith

  abbrev doing : List ℕ → ℕ → ℕ
  doing path a = (base_at n s path + (length (acts path).contexts + 1)) + a

  place : (path : List ℕ) → Here path → ℕ → ℕ
  place path h a = (length h.block.acts.contexts + 1) + a

  doing_place : (path : List ℕ) (a : ℕ) (h : Here path) → doing path a ≡ base h.node + place path h a
  unfolding place
  doing_place path a h = doing_is path h.node a h.block h.at h.stands.there ∙ assoc (base h.node) (length h.block.acts.contexts + 1) a

  act_there : (path : List ℕ) (a : ℕ) (act : Act) (h : Here path) → slice_get (acts path).acts a ≡ Some act → slice_get h.block.acts.acts a ≡ Some act
  act_there path a act h at = ap (λ (x : Acts). slice_get x.acts a) (sym (acts_is path h.node h.block h.at h.stands.there)) ∙ at

  at_statement : (path : List ℕ) (a : ℕ) (w : WritingStatement) (b : ℕ) (h : Here path) → slice_get h.block.acts.acts a ≡ Some (Writes w) → Statement_at path h (place path h a) b → DoingEdge system acts s.graph N path w b
  unfolding place
  at_statement path a w b h at o =
      let i = o.is in
      let e : a ≡ o.number = omega (arith, i) in
      let same : w ≡ o.statement = statement_same w o.statement (some_same (Writes w) (Writes o.statement) (sym at ∙ ap (slice_get h.block.acts.acts) e ∙ o.at)) in
      subst (λ v. DoingEdge system acts s.graph N path v b) (sym same)
      (⊎_elim (λ out. inl (out ∙ sym (around_is path h.node o.statement.around h.at))) (λ own. inr (from_node path h.node o.statement.reads b h.at own)) o.to)

  place_inside : (path : List ℕ) (a : ℕ) (act : Act) (h : Here path) → slice_get h.block.acts.acts a ≡ Some act → place path h a < (length h.block.acts.contexts + 1) + length h.block.acts.acts
  unfolding place
  place_inside path a act h at = let l = get_within h.block.acts.acts a act at in omega (arith, l)

  not_context : {A : Type 0} (path : List ℕ) (a b : ℕ) (h : Here path) → Context_at path h (place path h a) b → A
  unfolding place
  not_context path a b h o = let i = o.is in let l = get_within h.block.acts.contexts o.number o.context o.at in absurd (omega (arith, i, l))

  not_step : {A : Type 0} (path : List ℕ) (a b : ℕ) (h : Here path) → Step_at path h (place path h a) b → A
  unfolding place
  not_step path a b h o = let i = o.is in absurd (omega (arith, i))

  statement_edge_to : (path : List ℕ) (a : ℕ) (w : WritingStatement) (b : ℕ) (h : Here path) → slice_get (acts path).acts a ≡ Some (Writes w) → IsEdge (doing path a) b → DoingEdge system acts s.graph N path w b
  statement_edge_to path a w b h at e =
      let found = act_there path a (Writes w) h at in
      ⊎_elim
      (λ o. not_context path a b h o)
      (λ r. ⊎_elim (λ o. at_statement path a w b h found o) (λ o. not_step path a b h o) r)
      (in_block n g blocks s is.edges nodes_are h.node h.block h.stands (place path h a) b (place_inside path a (Writes w) h found) (subst (λ z. IsEdge z b) (doing_place path a h) e))

  statement_edge_from : (path : List ℕ) (a : ℕ) (w : WritingStatement) (b : ℕ) (h : Here path) → slice_get (acts path).acts a ≡ Some (Writes w) → DoingEdge system acts s.graph N path w b → IsEdge (doing path a) b
  unfolding place
  statement_edge_from path a w b h at e =
      let found = act_there path a (Writes w) h at in
      subst (λ z. IsEdge z b) (sym (doing_place path a h))
      (from_statement n g blocks s is.edges nodes_are h.node h.block h.stands (place path h a) b (place_inside path a (Writes w) h found)
      (record {
        node = h.node;
        block = h.block;
        stands = h.stands;
        number = a;
        statement = w;
        at = found;
        from = sym (assoc (base h.node) (length h.block.acts.contexts + 1) a);
        to = ⊎_elim (λ out. inl (out ∙ around_is path h.node w.around h.at)) (λ own. inr (to_node path h.node w.reads b h.at own)) e;
      }))

  -- ---- uses

  use_lists : g.uses ≡ all_source_uses t u
  use_lists = is.graph.uses

  use_count : length g.uses ≡ length u.uses
  unfolding all_source_uses
  use_count = ap length use_lists ∙ length_map _ u.uses

  use_edge_to : (i b : ℕ) → i < length u.uses → IsEdge (using_of n i) b → UseEdge t u c (using_of n) i b
  use_edge_to i b under e =
      let count = use_count in
      let o = use_from n g blocks s is.edges nodes_are i b (omega (arith, under, count)) e in
      let from = o.from in
      let same : i ≡ o.number = omega (arith, from) in
      ⊎_elim
      (λ l.
      let list : o.used ≡ needs (all_source_uses t u) i = sym (get_index g.uses o.number o.used [] o.at) ∙ (λ k. slice_index_or (use_lists k) (sym same k) []) in
      inl (l.0, among_has (needs (all_source_uses t u) i) l.0 (subst (λ ls. IsAmong l.0 ls) list l.1), l.2))
      (λ z. inr (z.0, subst (λ zs. IsAmong z.0 zs) (λ k. slice_index_or (is.graph.names k) (sym same k) []) z.1, z.2))
      o.to

  use_edge_from : (i b : ℕ) → i < length u.uses → UseEdge t u c (using_of n) i b → IsEdge (using_of n i) b
  use_edge_from i b under e =
      let count = use_count in
      let inside : i < length g.uses = omega (arith, under, count) in
      let used = there_below g.uses i inside in
      from_use n g blocks s is.edges nodes_are i b inside
      (record {
        number = i;
        used = used.0;
        at = used.1;
        from = refl;
        to = ⊎_elim
            (λ l.
            inl (
              l.0,
              subst (λ ls. IsAmong l.0 ls) (sym (ap (λ us. slice_index_or us i []) use_lists) ∙ get_index g.uses i used.0 [] used.1) (has_among (needs (all_source_uses t u) i) l.0 l.1),
              l.2,
            ))
            (λ z. inr (z.0, subst (λ zs. IsAmong z.0 zs) (sym (ap (λ us. slice_index_or us i []) is.graph.names)) z.1, z.2))
            e;
      })

  use_graph_is : IsUseGraph t u c s.graph (using_of n)
  use_graph_is = record {
    behind = λ i. omega arith;
    edges = λ i b under. ((λ e. use_edge_to i b under e), (λ e. use_edge_from i b under e));
  }

  -- ---- names that are read primed

  abbrev input_at : ℕ → ℕ → Option ℕ
  input_at j x = number u (use_name Input j x)

  abbrev Primed : List ℕ → ℕ → List ℕ
  Primed path x = name_reads system (cells_read system) (name_at path x)

  input_number : (path : List ℕ) (j x : ℕ) → node_at t path ≡ Some j → number_of_use t u (UsedInput (name_at path x)) ≡ input_at j x
  input_number path j x at = ap (option_and_then (λ k. number u (use_name Input k x))) at

  bound_is : (path : List ℕ) (j x : ℕ) → node_at t path ≡ Some j → is_bound_input system (name_at path x) ≡ is_some (input_at j x)
  bound_is path j x at = sym (inputs system M t is.cells.is_root is.cells.tree u is.uses (name_at path x)) ∙ ap is_some (input_number path j x at)

  primed_is : (path : List ℕ) (x : ℕ) → is_bound_input system (name_at path x) ≡ false → Primed path x ≡ as_list (written_cell system path x)
  primed_is path x e = ap (λ b. if b then binding_reads (cells_read system) (binding_of system path x) else as_list (written_cell system path x)) e

  abbrev Found : List ℕ → ℕ → ℕ → Type 0
  Found path x m = (y : ℕ) × IsAmong y (Primed path x) × (number_of system t c y ≡ Some m)

  node_is : (path : List ℕ) (j x : ℕ) (o : Option ℕ) → node_at t path ≡ Some j → input_at j x ≡ o → option_and_then (λ k. read_node n (step k x)) (node_at t path) ≡ or_cell (cell_count n) o (cell_at n (step j x))
  node_is path j x o at e = read_is path j x at ∙ ap (λ i. or_cell (cell_count n) i (cell_at n (step j x))) e

  to_found : (path : List ℕ) (j x m : ℕ) → node_at t path ≡ Some j → m < cell_count n → LeadsToCell system acts s.graph N path x m → (o : Option ℕ) → input_at j x ≡ o → Found path x m
  to_found path j x m at inside r None e =
      let cell : cell_at n (step j x) ≡ Some r.0 = sym (node_is path j x None at e) ∙ r.1 in
      let y = number_cell system t c is.cells path j x r.0 at cell in
      let low = (numbers system t c is.cells).within y.0 r.0 y.2 in
      let same : r.0 ≡ m = ⊎_elim (λ e. e) (λ p. let high = p.0 in absurd (omega (arith, low, high))) r.2 in
      (y.0, subst (λ ys. IsAmong y.0 ys) (sym (primed_is path x (bound_is path j x at ∙ ap is_some e))) (is_as_list y.0 (written_cell system path x) y.1), y.2 ∙ ap (λ z. Some z) same)
  to_found path j x m at inside r (Some i) e =
      let same : using_of n i ≡ r.0 = some_same (using_of n i) r.0 (sym (node_is path j x (Some i) at e) ∙ r.1) in
      ⊎_elim
      (λ here. absurd (omega (arith, same, here, inside)))
      (λ p. (inputs_lead_to_cells system t u c s.graph (using_of n) is.cells is.uses is.whole is.ends use_graph_is (name_at path x) i m (input_number path j x at ∙ e) inside).0 (subst (λ z. Passes s.graph (cell_count n) z m) (sym same) p.1))
      r.2

  from_found : (path : List ℕ) (j x m : ℕ) → node_at t path ≡ Some j → m < cell_count n → Found path x m → (o : Option ℕ) → input_at j x ≡ o → LeadsToCell system acts s.graph N path x m
  from_found path j x m at inside f None e =
      let written : written_cell system path x ≡ Some f.0 = as_list_is f.0 (written_cell system path x) (subst (λ ys. IsAmong f.0 ys) (primed_is path x (bound_is path j x at ∙ ap is_some e)) f.1) in
      let k = cell_number system t c is.cells path j x f.0 at written in
      (k.0, node_is path j x None at e ∙ k.1, inl (some_same k.0 m (sym k.2 ∙ f.2)))
  from_found path j x m at inside f (Some i) e = (
    using_of n i,
    node_is path j x (Some i) at e,
    inr (
      omega arith,
      (inputs_lead_to_cells system t u c s.graph (using_of n) is.cells is.uses is.whole is.ends use_graph_is (name_at path x) i m (input_number path j x at ∙ e) inside).1 f,
    ),
  )

  -- ---- all of it

  bound_by : (y m : ℕ) (o : Option Cell) → slice_get (cells_of system) y ≡ o → option_and_then (number_at system t c y) o ≡ Some m → y < length (cells_of system)
  bound_by y m None at h = none_some m h
  bound_by y m (Some d) at h = get_within (cells_of system) y d at

  low_base : (path : List ℕ) (h : Here path) → cell_count n ≤ base_at n s path
  low_base path h = let l = low n g blocks s is.edges nodes_are h.node h.block h.stands.there in let e = base_is path h.node h.at in omega (arith, l, e)

  around_high : (path : List ℕ) (k : ℕ) → Stepped path → cell_count n ≤ base_at n s path + k
  around_high path k stepped = let l = low_base path (here path stepped) in omega (arith, l)

  doing_high : (path : List ℕ) (a : ℕ) → Stepped path → cell_count n ≤ doing path a
  doing_high path a stepped = let l = low_base path (here path stepped) in omega (arith, l)

  written_numbered : (path : List ℕ) (w : WritingStatement) (y : ℕ) → Stepped path → IsAmong y (written_at system path w.written) → (m : ℕ) × (number_of system t c y ≡ Some m)
  written_numbered path w y stepped among =
      let x = among_back (λ x. as_list (written_cell system path x)) y w.written among in
      let h = here path stepped in
      written_has system t c is.cells path h.node x.0 y h.at x.2

  primed_numbered : (path : List ℕ) (x y : ℕ) → Stepped path → IsAmong y (Primed path x) → (m : ℕ) × (number_of system t c y ≡ Some m)
  primed_numbered path x y stepped among = let h = here path stepped in read_has system t c is.cells is.whole (name_at path x) h.node y h.at among

  pub step_graph_is : IsStepGraph system (acts_at t blocks) s.graph (nodes_of system n blocks s)
  step_graph_is = record {
    within = λ y m at. (numbers system t c is.cells).within y m at;
    alone = λ x y m at also. (numbers system t c is.cells).alone x y m at also;
    bound = λ y m at. bound_by y m (slice_get (cells_of system) y) refl at;
    around_behind = around_high;
    doing_behind = doing_high;
    written = written_numbered;
    numbered = primed_numbered;
    leads = λ path x m stepped inside.
        let h = here path stepped in
        ((λ r. to_found path h.node x m h.at inside r (input_at h.node x) refl), (λ f. from_found path h.node x m h.at inside f (input_at h.node x) refl));
    of_cells = λ a b under. ((λ e. cell_edge_to a b under e), (λ e. cell_edge_from a b under e));
    of_conditions = λ path k b stepped fits. let h = here path stepped in ((λ e. around_edge_to path k b h fits e), (λ e. around_edge_from path k b h fits e));
    of_statements = λ path a w b stepped at. let h = here path stepped in ((λ e. statement_edge_to path a w b h at e), (λ e. statement_edge_from path a w b h at e));
  }

  pub use_graph_tied : IsUseGraph t u c s.graph (using_of n)
  use_graph_tied = use_graph_is

  pub cycles : (x k : ℕ) → number_of system t c x ≡ Some k → (on_step_cycle system x ≡ true) ↔ LiesOnCycle s.graph k
  cycles x k at = (graphs_carry_steps system (acts_at t blocks) s.graph (nodes_of system n blocks s) follows.known step_graph_is).1 x k at

pub graphs_are_tied : GraphsAreTied
graphs_are_tied system n g blocks s is = (step_graph_is system n g blocks s is, use_graph_tied system n g blocks s is)

pub cycles_are_numbered : CyclesAreNumbered
cycles_are_numbered system n g blocks s is x k at = cycles system n g blocks s is x k at
