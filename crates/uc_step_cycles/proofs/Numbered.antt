-- The cells of a design and those of the table.
use Rattle.std.proofs.Common.{◌≡◌, ℕ, ◌<◌, Bool, true, false, List, [], ◌∷◌, length, map, Option, Some, None, refl, ap, sym, subst, ◌∙◌, inl, inr, ⊎_elim, arith}
use Rattle.std.specs.Prelude.{not, nat_eq, is_some, slice_get, if◌then◌else◌, ◌&&◌}
use Rattle.std.specs.List.{flat_map, filter, list_any}
use Rattle.std.specs.Option.{option_and_then, option_map}
use Rattle.indexmap.specs.IndexMap.{get}
use Rattle.uc_syntax.specs.declared.place.Identifier.{Identifier}
use Rattle.uc_syntax.specs.declared.type_expression.TypeExpr.{TypeExpr}
use Rattle.uc_syntax.specs.declared.declaration.VariableKind.{VariableKind}
use Rattle.uc_syntax.specs.declared.declaration.VariableKind.TheVariants.{Variable, Input, Output, Constant}
use Rattle.uc_syntax.specs.declared.declaration.Decl.{Decl}
use Rattle.uc_syntax.specs.declared.declaration.Decl.TheVariants.{Variables}
use Rattle.uc_syntax.proofs.Added.{append_nil}
use Rattle.uc_declared_types.specs.AliasLaw.{IsAmong}
use Rattle.uc_declared_types.proofs.Among.{among_back, among_flat}
use Rattle.uc_declared_types.proofs.Along.{any_by, any_there}
use Rattle.uc_meaning.specs.Lookup.{System, is_named, names_one}
use Rattle.uc_meaning.specs.Types.{type_of_written}
use Rattle.uc_meaning.specs.Cells.{Cell, InstanceAt, as_list, cell_of, cells_in, cells_of, instances, instances_from, is_cell, longest_chain, main_instance, same_path}
use Rattle.uc_meaning.specs.Code.{followed, written_cell}
use Rattle.uc_uses.specs.declared.tree.Node.{Node}
use Rattle.uc_uses.specs.declared.tree.Step.{Step}
use Rattle.uc_uses.specs.declared.tree.InstanceTree.{InstanceTree}
use Rattle.uc_uses.specs.Trees.{node_at, step}
use Rattle.uc_uses.proofs.Lists.{get_within, none_some, some_same}
use Rattle.uc_step_cycles.specs.declared.table.NodeCells.{NodeCells}
use Rattle.uc_step_cycles.specs.declared.table.CellTable.{CellTable}
use Rattle.uc_step_cycles.specs.Bound.{KnowsBound}
use Rattle.uc_step_cycles.specs.Cells.{HasCell, declares_cell, is_cell_kind, is_root}
use Rattle.uc_step_cycles.specs.Tables.{KnowsNode, followed_up, own_cell, written_by}
use Rattle.uc_step_cycles.specs.CellNumbersNumbers.{AreCellsOf, CellsAreNumbered, IsNumbered, is_place, number_at, number_of}
use Rattle.uc_step_cycles.proofs.Positions.{both, both_left, both_right, clash, equal, found_at, get_among, in_filter, path_equal, path_same, position, same, to_filter}
use Rattle.uc_step_cycles.proofs.Placed.{Placed, instances_placed, node_instance, paths}
use Rattle.uc_step_cycles.proofs.CellNumbersFollowed.{followed_same}

has_true : (cells : List Step) (s : Step) (o : Option ℕ) (b : Bool) → b ≡ true → HasCell cells s o b → (n : ℕ) × (o ≡ Some n)
has_true cells s None true is h = absurd h
has_true cells s None false is h = clash is
has_true cells s (Some n) b is h = (n, refl)

has_some : (cells : List Step) (s : Step) (n : ℕ) (o : Option ℕ) (b : Bool) → o ≡ Some n → HasCell cells s o b → (b ≡ true) × (slice_get cells n ≡ Some s)
has_some cells s n None b is h = none_some n is
has_some cells s n (Some m) true is h = (refl, ap (slice_get cells) (sym (some_same m n is)) ∙ h)
has_some cells s n (Some m) false is h = absurd h

among_map : {A B : Type 0} (f : A → B) (x : A) (xs : List A) → IsAmong x xs → IsAmong (f x) (map f xs)
unfolding IsAmong
among_map f x [] h = absurd h
among_map f x (y ∷ xs) h = ⊎_elim (λ e. inl (ap f e)) (λ r. inr (among_map f x xs r)) h

map_among : {A B : Type 0} (f : A → B) (y : B) (xs : List A) → IsAmong y (map f xs) → (x : A) × IsAmong x xs × (y ≡ f x)
unfolding IsAmong
map_among f y [] h = absurd h
map_among f y (x ∷ xs) h = ⊎_elim (λ e. (x, inl refl, e)) (λ r. let q = map_among f y xs r in (q.0, inr q.1, q.2)) h

module _ (system : System) (t : InstanceTree) (c : CellTable) (known : AreCellsOf system t c) where
  same_kind : (here : InstanceAt) (j : ℕ) (node : Node) (n : NodeCells) → Placed system t c known here j node → KnowsBound node.bindings.now n.bound → (kind : VariableKind) (x : ℕ) → is_cell here kind x ≡ is_cell_kind (is_root node) n.bound kind x
  unfolding KnowsBound
  same_kind here j node n placed says Variable x = refl
  same_kind here j node n placed says Input x = placed.main
  same_kind here j node n placed says Output x = ap not (placed.bound x ∙ ap is_some (sym (says x)))
  same_kind here j node n placed says Constant x = refl

  abbrev cell_here : InstanceAt → VariableKind → TypeExpr → Identifier → Cell
  cell_here here kind type i = record { path = here.path; name = i.name; kind = kind; type = type_of_written system here.code type }

  abbrev Kinds : InstanceAt → Bool → NodeCells → Type 0
  Kinds here root n = (kind : VariableKind) (x : ℕ) → is_cell here kind x ≡ is_cell_kind root n.bound kind x

  declared : (here : InstanceAt) (root : Bool) (n : NodeCells) → Kinds here root n → (decl : Decl) (d : Cell) → IsAmong d (cells_in system here decl) → (d.path ≡ here.path) × (declares_cell root n.bound d.name decl ≡ true)
  unfolding IsAmong
  declared here root n kinds (Variables place kind names type) d h =
      let i = map_among (cell_here here kind type) d (filter (λ i. is_cell here kind i.name) names) h in
      let f = in_filter (λ (i : Identifier). is_cell here kind i.name) names i.0 i.1 in (
        ap (λ (z : Cell). z.path) i.2,
        subst (λ (z : Cell). declares_cell root n.bound z.name (Variables place kind names type) ≡ true) (sym i.2)
            (both (names_one i.0.name names) (is_cell_kind root n.bound kind i.0.name) (any_there (is_named i.0.name) names i.0 f.0 (same i.0.name)) (sym (kinds kind i.0.name) ∙ f.1)),
      )
  declared here root n kinds other d h = absurd h

  declares : (here : InstanceAt) (root : Bool) (n : NodeCells) → Kinds here root n → (decl : Decl) (x : ℕ) → declares_cell root n.bound x decl ≡ true → (d : Cell) × IsAmong d (cells_in system here decl) × (d.path ≡ here.path) × (d.name ≡ x)
  declares here root n kinds (Variables place kind names type) x h =
      let i = any_by (is_named x) names (both_left (names_one x names) (is_cell_kind root n.bound kind x) h) in
      let name = equal i.0.name x i.2 in
      let is : is_cell here kind i.0.name ≡ true = ap (is_cell here kind) name ∙ kinds kind x ∙ both_right (names_one x names) (is_cell_kind root n.bound kind x) h in (
        cell_here here kind type i.0,
        among_map (cell_here here kind type) i.0 (filter (λ i. is_cell here kind i.name) names) (to_filter (λ (i : Identifier). is_cell here kind i.name) names i.0 i.1 is),
        refl,
        name,
      )
  declares here root n kinds other x h = clash h

  instances_are : instances system ≡ instances_from longest_chain system (main_instance known.root)
  unfolding instances
  instances_are = ap (λ o. flat_map (λ m. instances_from longest_chain system (main_instance m)) (as_list o)) known.is_root ∙ append_nil _

  -- what is known of the node of an instance
  record Known (here : InstanceAt) (j : ℕ) : Type 0 where
    node : Node
    placed : Placed system t c known here j node
    cells : NodeCells
    there : slice_get c.nodes j ≡ Some cells
    knows : KnowsNode j node cells c.cells

  known_at : (here : InstanceAt) → IsAmong here (instances system) → (j : ℕ) → node_at t here.path ≡ Some j → Known here j
  known_at here among j at =
      let s = instances_placed system t c known longest_chain here (subst (λ xs. IsAmong here xs) instances_are among) in
      let one : s.0 ≡ j = some_same s.0 j (sym s.2.at ∙ at) in
      let n = known.cells.nodes s.0 s.1 s.2.there in
      subst (Known here) one (record { node = s.1; placed = s.2; cells = n.0; there = n.1; knows = n.2 })

  own_is : (here : InstanceAt) (j x : ℕ) (k : Known here j) → own_cell c (step j x) ≡ get nat_eq k.cells.own.things x
  own_is here j x k = ap (option_and_then (λ (q : NodeCells). get nat_eq q.own.things x)) k.there

  own_some : (j : ℕ) (d : Cell) → IsAmong d (cells_of system) → node_at t d.path ≡ Some j → (n : ℕ) × (own_cell c (step j d.name) ≡ Some n)
  unfolding cells_of
  own_some j d among at =
      let h = among_back (λ here. flat_map (cells_in system here) here.code.decls) d (instances system) among in
      let e = among_back (cells_in system h.0) d h.0.code.decls h.2 in
      let s = instances_placed system t c known longest_chain h.0 (subst (λ xs. IsAmong h.0 xs) instances_are h.1) in
      let n = known.cells.nodes s.0 s.1 s.2.there in
      let g = declared h.0 (is_root s.1) n.0 (λ kind x. same_kind h.0 s.0 s.1 n.0 s.2 n.2.bound kind x) e.0 d e.2 in
      let one : s.0 ≡ j = some_same s.0 j (sym s.2.at ∙ ap (node_at t) (sym g.0) ∙ at) in
      let any : list_any (declares_cell (is_root s.1) n.0.bound d.name) s.1.code.now.decls ≡ true =
      any_there (declares_cell (is_root s.1) n.0.bound d.name) s.1.code.now.decls e.0 (subst (λ m. IsAmong e.0 m.decls) (sym s.2.code) e.1) g.1 in
      let r = has_true c.cells (step s.0 d.name) (get nat_eq n.0.own.things d.name) (list_any (declares_cell (is_root s.1) n.0.bound d.name) s.1.code.now.decls) any (n.2.there d.name) in
      (r.0, ap (λ i. own_cell c (step i d.name)) (sym one) ∙ ap (option_and_then (λ (q : NodeCells). get nat_eq q.own.things d.name)) n.1 ∙ r.1)

  -- a number is that of a node's name
  node_there : (j x n : ℕ) → own_cell c (step j x) ≡ Some n → (node : Node) × (slice_get t.nodes j ≡ Some node)
  node_there j x n own = by (slice_get t.nodes j) refl
    where
      by : (o : Option Node) → slice_get t.nodes j ≡ o → (node : Node) × (slice_get t.nodes j ≡ Some node)
      by None is = none_some n (sym (ap (option_and_then (λ (q : NodeCells). get nat_eq q.own.things x)) (known.cells.none j is)) ∙ own)
      by (Some node) is = (node, is)

  own_stands : (j x n : ℕ) → own_cell c (step j x) ≡ Some n → slice_get c.cells n ≡ Some (step j x)
  own_stands j x n own =
      let node = node_there j x n own in
      let k = known.cells.nodes j node.0 node.1 in
      (has_some c.cells (step j x) n (get nat_eq k.0.own.things x) (list_any (declares_cell (is_root node.0) k.0.bound x) node.0.code.now.decls)
      (sym (ap (option_and_then (λ (q : NodeCells). get nat_eq q.own.things x)) k.1) ∙ own) (k.2.there x)).1

  cell_some : (path : List ℕ) (j x n : ℕ) → node_at t path ≡ Some j → own_cell c (step j x) ≡ Some n → (k : ℕ) × (cell_of system path x ≡ Some k)
  unfolding cell_of cells_of
  cell_some path j x n at own =
      let i = node_instance system t c known longest_chain path j (known.shallow path j at) at in
      let among = subst (λ xs. IsAmong i.0 xs) (sym instances_are) i.1 in
      let k = known_at i.0 among j (ap (node_at t) i.2 ∙ at) in
      let any = (has_some c.cells (step j x) n (get nat_eq k.cells.own.things x) (list_any (declares_cell (is_root k.node) k.cells.bound x) k.node.code.now.decls) (sym (own_is i.0 j x k) ∙ own) (k.knows.there x)).0 in
      let e = any_by (declares_cell (is_root k.node) k.cells.bound x) k.node.code.now.decls any in
      let d = declares i.0 (is_root k.node) k.cells (λ kind y. same_kind i.0 j k.node k.cells k.placed k.knows.bound kind y) e.0 x e.2 in
      let there = among_flat (λ here. flat_map (cells_in system here) here.code.decls) i.0 d.0 (instances system) among
      (among_flat (cells_in system i.0) e.0 d.0 i.0.code.decls (subst (λ m. IsAmong e.0 m.decls) k.placed.code e.1) d.1) in
      found_at (λ (z : Cell). same_path z.path path && nat_eq z.name x) 0 (cells_of system) d.0 there
      (both (same_path d.0.path path) (nat_eq d.0.name x) (ap (λ p. same_path p path) (d.2 ∙ i.2) ∙ path_same path) (ap (λ y. nat_eq y x) d.3 ∙ same x))

  record At (path : List ℕ) (x k : ℕ) : Type 0 where
    cell : Cell
    there : slice_get (cells_of system) k ≡ Some cell
    path_is : cell.path ≡ path
    name_is : cell.name ≡ x

  found_cell : (path : List ℕ) (x k : ℕ) → cell_of system path x ≡ Some k → At path x k
  unfolding cell_of
  found_cell path x k h =
      let p = position (λ (z : Cell). same_path z.path path && nat_eq z.name x) 0 k (cells_of system) h in
      let number : p.0 ≡ k = omega (arith, p.2) in
      record {
        cell = p.1;
        there = ap (slice_get (cells_of system)) (sym number) ∙ p.3;
        path_is = path_equal p.1.path path (both_left (same_path p.1.path path) (nat_eq p.1.name x) p.4);
        name_is = equal p.1.name x (both_right (same_path p.1.path path) (nat_eq p.1.name x) p.4);
      }

  number_is : (path : List ℕ) (j x k n : ℕ) → node_at t path ≡ Some j → cell_of system path x ≡ Some k → own_cell c (step j x) ≡ Some n → number_of system t c k ≡ Some n
  number_is path j x k n at found own =
      let a = found_cell path x k found in
      let back : cell_of system a.cell.path a.cell.name ≡ Some k = (λ i. cell_of system (a.path_is i) (a.name_is i)) ∙ found in
      ap (option_and_then (number_at system t c k)) a.there
      ∙ ap (λ b. if b then option_and_then (λ j. own_cell c (step j a.cell.name)) (node_at t a.cell.path) else None) (ap (is_place k) back ∙ same k)
      ∙ (λ i. option_and_then (λ j. own_cell c (step j (a.name_is i))) (node_at t (a.path_is i)))
      ∙ ap (option_and_then (λ j. own_cell c (step j x))) at
      ∙ own

  numbered : (path : List ℕ) (j x : ℕ) → node_at t path ≡ Some j → IsNumbered system t c (cell_of system path x) (own_cell c (step j x))
  numbered path j x at = by (cell_of system path x) (own_cell c (step j x)) refl refl
    where
      by : (a b : Option ℕ) → cell_of system path x ≡ a → own_cell c (step j x) ≡ b → IsNumbered system t c a b
      by None None is own = tt
      by None (Some n) is own = let k = cell_some path j x n at own in none_some k.0 (sym is ∙ k.1)
      by (Some k) None is own =
          let a = found_cell path x k is in
          let r = own_some j a.cell (get_among (cells_of system) k a.cell a.there) (ap (node_at t) a.path_is ∙ at) in
          none_some r.0 (sym own ∙ ap (λ y. own_cell c (step j y)) (sym a.name_is) ∙ r.1)
      by (Some k) (Some n) is own =
          let a = found_cell path x k is in
          (number_is path j x k n at is own, get_within (cells_of system) k a.cell a.there)

  pub written_numbered : (path : List ℕ) (j x : ℕ) → node_at t path ≡ Some j → IsNumbered system t c (written_cell system path x) (written_by t c (step j x))
  written_numbered path j x at =
      let f = followed_same system t c known longest_chain path j x at in
      subst (λ y. IsNumbered system t c (written_cell system path x) (own_cell c (step (followed_up longest_chain t c (step j x)).node y))) f.1
      (numbered (followed longest_chain system (path, x)).0 (followed_up longest_chain t c (step j x)).node (followed longest_chain system (path, x)).1 f.0)

  -- ---- no two cells have one number

  record Named (k n : ℕ) : Type 0 where
    path : List ℕ
    name : ℕ
    node : ℕ
    at : node_at t path ≡ Some node
    own : own_cell c (step node name) ≡ Some n
    cell : cell_of system path name ≡ Some k

  named : (k n : ℕ) → number_of system t c k ≡ Some n → Named k n
  named k n h = by_cell (slice_get (cells_of system) k) h
    where
      by_node : (d : Cell) (o : Option ℕ) → node_at t d.path ≡ o → cell_of system d.path d.name ≡ Some k → option_and_then (λ j. own_cell c (step j d.name)) o ≡ Some n → Named k n
      by_node d None at cell h = none_some n h
      by_node d (Some j) at cell h = record { path = d.path; name = d.name; node = j; at = at; own = h; cell = cell }

      place_is : (o : Option ℕ) → is_place k o ≡ true → o ≡ Some k
      place_is None h = clash h
      place_is (Some l) h = ap (λ z. Some z) (sym (equal k l h))

      by_place : (d : Cell) (b : Bool) → is_place k (cell_of system d.path d.name) ≡ b → (if b then option_and_then (λ j. own_cell c (step j d.name)) (node_at t d.path) else None) ≡ Some n → Named k n
      by_place d true is h = by_node d (node_at t d.path) refl (place_is (cell_of system d.path d.name) is) h
      by_place d false is h = none_some n h

      by_cell : (o : Option Cell) → option_and_then (number_at system t c k) o ≡ Some n → Named k n
      by_cell None h = none_some n h
      by_cell (Some d) h = by_place d (is_place k (cell_of system d.path d.name)) refl h

  pub numbers_alone : (k l n : ℕ) → number_of system t c k ≡ Some n → number_of system t c l ≡ Some n → k ≡ l
  numbers_alone k l n first second =
      let a = named k n first in
      let b = named l n second in
      let one : step a.node a.name ≡ step b.node b.name = some_same (step a.node a.name) (step b.node b.name) (sym (own_stands a.node a.name n a.own) ∙ own_stands b.node b.name n b.own) in
      let node = node_there a.node a.name n a.own in
      let path : a.path ≡ b.path =
      (paths system t c known).alone a.path b.path a.node node.0.code.now (ap (option_map (λ (z : Node). z.code.now)) node.1) a.at (b.at ∙ ap (λ (z : Step). Some z.node) (sym one)) in
      some_same k l (sym a.cell ∙ (λ i. cell_of system (path i) (one i).name) ∙ b.cell)

  pub number_within : (k n : ℕ) → number_of system t c k ≡ Some n → n < length c.cells
  number_within k n h = let a = named k n h in get_within c.cells n (step a.node a.name) (own_stands a.node a.name n a.own)

pub cells_are_numbered : CellsAreNumbered
cells_are_numbered system t c known = record {
  alone = numbers_alone system t c known;
  within = number_within system t c known;
  written = written_numbered system t c known;
}
