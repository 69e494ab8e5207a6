-- Cells that are read have numbers.
use Rattle.std.proofs.Common.{◌≡◌, ℕ, zero, suc, Bool, true, false, List, [], ◌∷◌, ◌++◌, Option, Some, None, refl, ap, sym, ◌∙◌}
use Rattle.std.specs.Prelude.{if◌then◌else◌}
use Rattle.std.specs.Option.{option_and_then, option_map}
use Rattle.uc_syntax.specs.declared.expression.Expr.{Expr}
use Rattle.uc_syntax.specs.declared.declaration.Module.{Module}
use Rattle.uc_meaning.specs.Lookup.{System, Defined, InstanceParts, bound_to, define_of, instance_of, module_at, parent_of}
use Rattle.uc_meaning.specs.Cells.{as_list}
use Rattle.uc_meaning.specs.Expressions.{binding_from, binding_of}
use Rattle.uc_meaning.specs.Code.{written_cell}
use Rattle.uc_declared_types.specs.AliasLaw.{IsAmong}
use Rattle.uc_declared_types.proofs.Among.{among_back}
use Rattle.uc_order_rules.specs.Roots.{NameAt, name_at, is_bound_input, led}
use Rattle.uc_order_rules.specs.Mentions.{Mention, Reads, Applies, ReadsOld, mentions}
use Rattle.uc_order_rules.specs.Reads.{Elsewhere, binding_reads, body_reads, cells_read, mention_reads, name_reads, reads_through}
use Rattle.uc_uses.specs.declared.tree.Step.{Step}
use Rattle.uc_uses.specs.declared.tree.InstanceTree.{InstanceTree}
use Rattle.uc_uses.specs.Trees.{code_at, instance_at, led_node, node_at, step}
use Rattle.uc_uses.specs.PathLaw.{IsLed, NodesHavePaths}
use Rattle.uc_step_cycles.specs.declared.table.CellTable.{CellTable}
use Rattle.uc_step_cycles.specs.Tables.{written_by}
use Rattle.uc_step_cycles.specs.CellNumbersNumbers.{AreCellsOf, IsNumbered, NumbersCells, number_of}
use Rattle.uc_step_cycles.proofs.Numbered.{cells_are_numbered}
use Rattle.uc_step_cycles.proofs.Positions.{parent_push, split_path}
use Rattle.uc_step_cycles.specs.InputWays.{IsWhole}
use Rattle.uc_step_cycles.proofs.Leading.{led_there}
use Rattle.uc_step_cycles.proofs.Lists.{as_list_is, none_some, some_same}
use Rattle.uc_step_cycles.proofs.NodePaths.{paths as tree_paths, upper as upper_node, node_code as code_there}

module _ (system : System) (t : InstanceTree) (c : CellTable) (known : AreCellsOf system t c) where
  pub paths : NodesHavePaths system t
  paths = tree_paths system t known.root known.is_root known.tree

  pub numbers : NumbersCells system t c
  numbers = cells_are_numbered system t c known

  -- ---- the cell that a name stands for, and its number

  both_some : (a b : Option ℕ) (y : ℕ) → IsNumbered system t c a b → a ≡ Some y → (m : ℕ) × (b ≡ Some m) × (number_of system t c y ≡ Some m)
  both_some None b y h is = none_some y is
  both_some (Some k) None y h is = absurd h
  both_some (Some k) (Some m) y h is = (m, refl, ap (number_of system t c) (sym (some_same k y is)) ∙ h.0)

  some_both : (a b : Option ℕ) (m : ℕ) → IsNumbered system t c a b → b ≡ Some m → (y : ℕ) × (a ≡ Some y) × (number_of system t c y ≡ Some m)
  some_both a None m h is = none_some m is
  some_both None (Some n) m h is = absurd h
  some_both (Some k) (Some n) m h is = (k, refl, h.0 ∙ is)

  -- a cell that a name of a node stands for has a number, which the name has in the table
  pub cell_number : (path : List ℕ) (j x y : ℕ) → node_at t path ≡ Some j → written_cell system path x ≡ Some y → (m : ℕ) × (written_by t c (step j x) ≡ Some m) × (number_of system t c y ≡ Some m)
  cell_number path j x y at is = both_some (written_cell system path x) (written_by t c (step j x)) y (numbers.written path j x at) is

  pub number_cell : (path : List ℕ) (j x m : ℕ) → node_at t path ≡ Some j → written_by t c (step j x) ≡ Some m → (y : ℕ) × (written_cell system path x ≡ Some y) × (number_of system t c y ≡ Some m)
  number_cell path j x m at is = some_both (written_cell system path x) (written_by t c (step j x)) m (numbers.written path j x at) is

  abbrev pub HasNumber : ℕ → Type 0
  HasNumber y = (m : ℕ) × (number_of system t c y ≡ Some m)

  pub written_has : (path : List ℕ) (j x y : ℕ) → node_at t path ≡ Some j → IsAmong y (as_list (written_cell system path x)) → HasNumber y
  written_has path j x y at among = let m = cell_number path j x y at (as_list_is y (written_cell system path x) among) in (m.0, m.2)

  -- ---- nodes of paths

  pub upper : (q : List ℕ) (i j : ℕ) → node_at t (q ++ i ∷ []) ≡ Some j → (k : ℕ) × (node_at t q ≡ Some k) × (instance_at t k i ≡ Some (Some j))
  upper q i j h = upper_node system t known.root known.is_root known.tree q i j h

  pub node_code : (path : List ℕ) (j : ℕ) → node_at t path ≡ Some j → (m : Module) × (code_at t j ≡ Some m)
  node_code path j at = code_there system t known.root known.is_root known.tree path j at

  abbrev IsThere : List ℕ → Type 0
  IsThere path = (k : ℕ) × (node_at t path ≡ Some k)

  -- what is bound to a name is read in the node above
  bound_above : (q : List ℕ) (x : ℕ) (o : Option Expr) (b : List ℕ × Expr) → option_map (λ (e : Expr). (q, e)) o ≡ Some b → b.0 ≡ q
  bound_above q x None b h = none_some b h
  bound_above q x (Some e) b h = ap (λ (p : List ℕ × Expr). p.0) (sym (some_same (q, e) b h))

  binding_there : (path : List ℕ) (j x : ℕ) (b : List ℕ × Expr) → node_at t path ≡ Some j → binding_of system path x ≡ Some b → IsThere b.0
  unfolding parent_of
  binding_there path j x b at h =
      split_path path
      (λ none. none_some b (sym (ap (λ p. binding_from system x (parent_of p)) none) ∙ h))
      (λ q i is.
      let k = upper q i j (ap (node_at t) (sym is) ∙ at) in
      let e = sym (ap (binding_from system x) (parent_push q i)) ∙ sym (ap (λ p. binding_from system x (parent_of p)) is) ∙ h in
      let above = bound_above q x (option_and_then (λ (p : InstanceParts). bound_to p x) (option_and_then (λ (m : Module). instance_of m i) (module_at system q))) b e in
      (k.0, ap (node_at t) above ∙ k.1))

  -- ---- what is read

  module _ (whole : IsWhole t) where
    abbrev Known : Elsewhere → Type 0
    Known elsewhere = (path : List ℕ) (e : Expr) (y : ℕ) → IsThere path → IsAmong y (elsewhere path e) → HasNumber y

    module _ (elsewhere : Elsewhere) (more : Known elsewhere) where
      binding_has : (path : List ℕ) (j x y : ℕ) (o : Option (List ℕ × Expr)) → binding_of system path x ≡ o → node_at t path ≡ Some j → IsAmong y (binding_reads elsewhere o) → HasNumber y
      unfolding IsAmong
      binding_has path j x y None is at h = absurd h
      binding_has path j x y (Some b) is at h = more b.0 b.1 y (binding_there path j x b at is) h

      name_by : (n : NameAt) (j y : ℕ) (b : Bool) → node_at t n.path ≡ Some j → IsAmong y (if b then binding_reads elsewhere (binding_of system n.path n.name) else as_list (written_cell system n.path n.name)) → HasNumber y
      name_by n j y true at h = binding_has n.path j n.name y (binding_of system n.path n.name) refl at h
      name_by n j y false at h = written_has n.path j n.name y at h

      pub name_has : (n : NameAt) (j y : ℕ) → node_at t n.path ≡ Some j → IsAmong y (name_reads system elsewhere n) → HasNumber y
      name_has n j y at h = name_by n j y (is_bound_input system n) at h

      led_by : (path : List ℕ) (k x : ℕ) (ys : List ℕ) (y : ℕ) (m : Module) → code_at t k ≡ Some m → (o : Option Step) → led_node t k x ys ≡ o → IsLed system t o (led system path x ys) → IsAmong y (name_reads system elsewhere (led system path x ys)) → HasNumber y
      led_by path k x ys y m code None is leads h = absurd (led_there system t known.tree whole k m code x ys is)
      led_by path k x ys y m code (Some s) is leads h = name_has (led system path x ys) s.node y leads.0 h

      body_has : (path : List ℕ) (k y : ℕ) (o : Option Defined) → node_at t path ≡ Some k → IsAmong y (body_reads elsewhere path o) → HasNumber y
      unfolding IsAmong
      body_has path k y None at h = absurd h
      body_has path k y (Some d) at h = more path d.body y (k, at) h

      mention_has : (path : List ℕ) (k y : ℕ) (mn : Mention) → node_at t path ≡ Some k → IsAmong y (mention_reads system elsewhere path mn) → HasNumber y
      mention_has path k y (Reads x primed ys) at h = let m = node_code path k at in led_by path k x ys y m.0 m.1 (led_node t k x ys) refl (paths.leads path k m.0 x ys at m.1) h
      mention_has path k y (Applies f) at h = body_has path k y (option_and_then (λ m. define_of m f) (module_at system path)) at h
      mention_has path k y (ReadsOld x) at h = name_has (name_at path x) k y at h

    reads_have : (n : ℕ) → Known (reads_through n system)
    unfolding reads_through IsAmong
    reads_have zero path e y there h = absurd h
    reads_have (suc n) path e y there h =
        let mn = among_back (mention_reads system (reads_through n system) path) y (mentions e) h in
        mention_has (reads_through n system) (reads_have n) path there.0 y mn.0 there.1 mn.2

    -- the cells that a name is read of
    pub read_has : (n : NameAt) (j y : ℕ) → node_at t n.path ≡ Some j → IsAmong y (name_reads system (cells_read system) n) → HasNumber y
    read_has n j y at h = name_has (cells_read system) (λ path e z there g. reads_have _ path e z there g) n j y at h
