-- The faults that are noted are those of the rule.
use Rattle.std.proofs.Common.{◌≡◌, ℕ, Bool, true, false, List, [], ◌∷◌, Option, Some, None, refl, ap, sym, subst, ◌∙◌}
use Rattle.std.specs.Prelude.{slice_get, slice_index_or, ◌||◌, if◌then◌else◌}
use Rattle.std.specs.List.{flat_map, list_any}
use Rattle.std.proofs.lemmas.List.Folds.{list_any-append}
use Rattle.uc_meaning.specs.Lookup.{System}
use Rattle.uc_meaning.specs.Cells.{as_list}
use Rattle.uc_meaning.specs.Code.{written_cell}
use Rattle.uc_rules.specs.declared.fault.Fault.{Fault}
use Rattle.uc_rules.specs.declared.rule.Rule.TheVariants.{CyclicStep}
use Rattle.uc_rules.specs.Faults.{breaks_where, first_of}
use Rattle.uc_declared_types.specs.AliasLaw.{IsAmong}
use Rattle.uc_declared_types.proofs.Among.{among_back, among_flat}
use Rattle.uc_graph.specs.Cycles.{MarksCycles}
use Rattle.uc_order_rules.specs.Dependence.{Writing, cyclic_steps, on_step_cycle, writings}
use Rattle.uc_uses.specs.declared.tree.InstanceTree.{InstanceTree}
use Rattle.uc_uses.specs.Trees.{node_at, step}
use Rattle.uc_uses.specs.declared.use_graph_graph.UseGraph.{UseGraph}
use Rattle.uc_uses.specs.Tables.{KnowsUses}
use Rattle.uc_uses.specs.Resolving.{IsGraph}
use Rattle.uc_uses.proofs.Same.{same_first}
use Rattle.uc_step_cycles.specs.declared.table.CellTable.{CellTable}
use Rattle.uc_step_cycles.specs.Tables.{KnowsCells, written_by}
use Rattle.uc_step_cycles.specs.CellNumbersNumbers.{AreCellsOf, IsNumbered, number_of}
use Rattle.uc_step_cycles.specs.declared.acts.Act.{Act}
use Rattle.uc_step_cycles.specs.declared.acts.Act.TheVariants.{Writes, Steps}
use Rattle.uc_step_cycles.specs.declared.acts.Acts.{Acts}
use Rattle.uc_step_cycles.specs.Stepping.{IsStepped, written_at}
use Rattle.uc_step_cycles.proofs.Reading.{writings_are_reached}
use Rattle.uc_step_cycles.specs.declared.stepped_blocks.Block.{Block}
use Rattle.uc_step_cycles.specs.Blocks.{KnowsTree}
use Rattle.uc_step_cycles.specs.StepLaw.{FollowsSteps, acts_at}
use Rattle.uc_step_cycles.specs.declared.numbers.Names.{Names}
use Rattle.uc_step_cycles.specs.Ties.{IsRootGraph}
use Rattle.uc_step_cycles.proofs.Lists.{each_back, each_there, none_among}
use Rattle.uc_step_cycles.proofs.ReadCells.{numbers}
use Rattle.uc_step_cycles.proofs.Tied.{acts_is, cycles_are_numbered, follows, here, there}
use Rattle.uc_step_cycles.specs.RootTree.{IsRootTree, MarksSteps}
use Rattle.uc_step_cycles.specs.Noted.{flag_of, is_flagged, noted_act, noted_all, noted_block}

clash : {A : Type 0} → false ≡ true → A
clash h = cc

same_bool : (b c : Bool) → (b ≡ true → c ≡ true) → (c ≡ true → b ≡ true) → b ≡ c
same_bool true c h k = sym (h refl)
same_bool false true h k = clash (k refl)
same_bool false false h k = refl

or_none : (b : Bool) → b ≡ (b || false)
or_none true = refl
or_none false = refl

module _ (system : System) (n : Names) (g : UseGraph) (blocks : List Block) (flags : List Bool) (root : IsRootTree system n.tree.now) (cells : KnowsCells n.tree.now n.cells.now) (uses : KnowsUses n.tree.now n.uses.now) (graph : IsGraph n.tree.now n.uses.now g) (knows : KnowsTree n.tree.now blocks)
    (marked : MarksSteps n g blocks flags) where
  abbrev t : InstanceTree
  t = n.tree.now

  abbrev c : CellTable
  c = n.cells.now

  abbrev acts : List ℕ → Acts
  acts path = acts_at t blocks path

  of_cells : AreCellsOf system t c
  of_cells = record {
    root = root.root;
    is_root = root.is_root;
    tree = root.tree;
    cells = cells;
    alone = root.alone;
    shallow = root.shallow;
  }

  made : IsRootGraph system n g blocks marked.graph
  made = record {
    cells = of_cells;
    uses = uses;
    graph = graph;
    acts = knows;
    edges = marked.edges;
    whole = root.whole;
    ends = root.ends;
  }

  follow : FollowsSteps system t blocks
  follow = follows system n g blocks marked.graph made

  -- ---- flags

  flag_is : (y k : ℕ) → number_of system t c y ≡ Some k → slice_index_or flags k false ≡ on_step_cycle system y
  unfolding MarksCycles
  flag_is y k at =
      let cycle = cycles_are_numbered system n g blocks marked.graph made y k at in
      same_bool (slice_index_or flags k false) (on_step_cycle system y) (λ h. cycle.1 ((marked.marks k).0 h)) (λ h. (marked.marks k).1 (cycle.0 h))

  cell_flag : (o p : Option ℕ) → IsNumbered system t c o p → flag_of flags p ≡ list_any (on_step_cycle system) (as_list o)
  cell_flag None None h = refl
  cell_flag None (Some m) h = absurd h
  cell_flag (Some y) None h = absurd h
  cell_flag (Some y) (Some m) h = flag_is y m h.0 ∙ or_none (on_step_cycle system y)

  names_flag : (path : List ℕ) (j : ℕ) → node_at t path ≡ Some j → (xs : List ℕ) → list_any (is_flagged n flags j) xs ≡ list_any (on_step_cycle system) (written_at system path xs)
  names_flag path j at [] = refl
  names_flag path j at (x ∷ xs) =
      let one = cell_flag (written_cell system path x) (written_by t c (step j x)) ((numbers system t c of_cells).written path j x at) in
      let more = names_flag path j at xs in
      (λ i. one i || more i) ∙ sym (list_any-append (on_step_cycle system) (as_list (written_cell system path x)) (written_at system path xs))

  -- ---- from blocks to statements of the design

  abbrev fault_of : Writing → List Fault
  fault_of w = breaks_where (list_any (on_step_cycle system) w.written) CyclicStep w.place

  act_there : (f : Fault) (path : List ℕ) (j : ℕ) (b : Block) → node_at t path ≡ Some j → slice_get blocks j ≡ Some b → IsStepped system acts path → (act : Act) → IsAmong act b.acts.acts → IsAmong f (noted_act n flags j act) → IsAmong f (cyclic_steps system)
  act_there f path j b at found stepped (Writes w) among h =
      let one = (writings_are_reached system acts follow.known w.place (written_at system path w.written)).1
      (record {
        path = path;
        statement = w;
        stands = record { stepped = stepped; there = subst (λ (x : Acts). IsAmong (Writes w) x.acts) (sym (acts_is system n g blocks marked.graph made path j b at found)) among };
        is_place = refl;
        are_cells = refl;
      }) in
      let flag_same : list_any (is_flagged n flags j) w.written ≡ list_any (on_step_cycle system) one.0.written = names_flag path j at w.written ∙ ap (λ ks. list_any (on_step_cycle system) ks) (sym one.3) in
      let place_same = sym one.2 in
      among_flat fault_of one.0 f (writings system) one.1 (subst (λ fs. IsAmong f fs) (λ i. breaks_where (flag_same i) CyclicStep (place_same i)) h)
  act_there f path j b at found stepped (Steps i k) among h = none_among f h

  block_there : (f : Fault) (j : ℕ) (b : Block) → slice_get blocks j ≡ Some b → IsAmong f (noted_block n flags j b) → IsAmong f (cyclic_steps system)
  block_there f j b found h = by b.is_stepped refl h
    where
      by : (c : Bool) → b.is_stepped ≡ c → IsAmong f (if c then flat_map (noted_act n flags j) b.acts.acts else []) → IsAmong f (cyclic_steps system)
      by true is h =
          let p = there system n g blocks marked.graph made j b (record { there = found; stepped = is }) in
          let a = among_back (noted_act n flags j) f b.acts.acts h in
          act_there f p.path j b p.at found p.stepped a.0 a.1 a.2
      by false is h = none_among f h

  to_rule : (f : Fault) → IsAmong f (noted_all n flags blocks) → IsAmong f (cyclic_steps system)
  unfolding noted_all
  to_rule f h = let j = each_back (noted_block n flags) f blocks h in block_there f j.0 j.1 j.2 j.3

  -- ---- and back

  from_rule : (f : Fault) → IsAmong f (cyclic_steps system) → IsAmong f (noted_all n flags blocks)
  unfolding noted_all
  from_rule f h =
      let v = among_back fault_of f (writings system) h in
      let w = (writings_are_reached system acts follow.known v.0.place v.0.written).0 (v.0, v.1, refl, refl) in
      let p = here system n g blocks marked.graph made w.path w.stands.stepped in
      let among : IsAmong (Writes w.statement) p.block.acts.acts =
      subst (λ (x : Acts). IsAmong (Writes w.statement) x.acts) (acts_is system n g blocks marked.graph made w.path p.node p.block p.at p.stands.there) w.stands.there in
      let flag_same : list_any (on_step_cycle system) v.0.written ≡ list_any (is_flagged n flags p.node) w.statement.written =
      ap (λ ks. list_any (on_step_cycle system) ks) w.are_cells ∙ sym (names_flag w.path p.node p.at w.statement.written) in
      let place_same = w.is_place in
      let act : IsAmong f (noted_act n flags p.node (Writes w.statement)) = subst (λ fs. IsAmong f fs) (λ i. breaks_where (flag_same i) CyclicStep (place_same i)) v.2 in
      let all : IsAmong f (flat_map (noted_act n flags p.node) p.block.acts.acts) = among_flat (noted_act n flags p.node) (Writes w.statement) f p.block.acts.acts among act in
      each_there (noted_block n flags) f p.node blocks p.block p.stands.there
      (subst (λ c. IsAmong f (if c then flat_map (noted_act n flags p.node) p.block.acts.acts else [])) (sym p.stands.stepped) all)

  pub all_noted : (o : Option Fault) → first_of o (noted_all n flags blocks) ≡ first_of o (cyclic_steps system)
  all_noted o = same_first o (noted_all n flags blocks) (cyclic_steps system) to_rule from_rule
