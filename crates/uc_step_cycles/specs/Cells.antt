-- The cells that a node has itself.
use Rattle.std.specs.Prelude.{◌≡◌, ◌⊎◌, ◌&&◌, not, ℕ, Bool, true, false, nat_eq, List, slice_get, Option, Some, None}
use Rattle.std.specs.List.{list_any}
use Rattle.std.specs.Option.{is_some}
use Rattle.indexmap.specs.IndexMap.{get}
use Rattle.uc_syntax.specs.declared.declaration.VariableKind.{VariableKind}
use Rattle.uc_syntax.specs.declared.declaration.VariableKind.TheVariants.{Variable, Input, Output, Constant}
use Rattle.uc_syntax.specs.declared.declaration.Decl.{Decl}
use Rattle.uc_syntax.specs.declared.declaration.Decl.TheVariants.{Variables}
use Rattle.uc_meaning.specs.Lookup.{names_one}
use Rattle.uc_names.specs.declared.firsts.Firsts.{Firsts}
use Rattle.uc_uses.specs.declared.tree.Node.{Node}
use Rattle.uc_uses.specs.declared.tree.Step.{Step}
use Rattle.uc_uses.specs.Trees.{step}
use Rattle.uc_step_cycles.specs.declared.table.NodeCells.{NodeCells}
use Rattle.uc_step_cycles.specs.Bound.{KnowsBound}

abbrev pub is_cell_kind : Bool → Firsts (Option ℕ) → VariableKind → ℕ → Bool
is_cell_kind root bound Variable x = true
is_cell_kind root bound Input x = root
is_cell_kind root bound Output x = not (is_some (get nat_eq bound.things x))
is_cell_kind root bound Constant x = false

-- a declaration declares a cell of a name
abbrev pub declares_cell : Bool → Firsts (Option ℕ) → ℕ → Decl → Bool
declares_cell root bound x (Variables place kind names type) = names_one x names && is_cell_kind root bound kind x
declares_cell root bound x other = false

-- a name has a number exactly where it is a cell, and stands there
abbrev pub HasCell : List Step → Step → Option ℕ → Bool → Type 0
HasCell cells s None false = Unit {0}
HasCell cells s (Some i) true = slice_get cells i ≡ Some s
HasCell cells s None true = ⊥
HasCell cells s (Some i) false = ⊥

-- The cells of a node are entered behind others.
pub record Enters (k : ℕ) (before : List Step) (expect : ℕ → Bool) (own : Firsts ℕ) (cells : List Step) : Type 0 where
  pub kept : (i : ℕ) (s : Step) → slice_get before i ≡ Some s → slice_get cells i ≡ Some s
  pub there : (x : ℕ) → HasCell cells (step k x) (get nat_eq own.things x) (expect x)
  pub new : (i : ℕ) (s : Step) → slice_get cells i ≡ Some s → (slice_get before i ≡ Some s) ⊎ ((x : ℕ) × (s ≡ step k x) × (get nat_eq own.things x ≡ Some i))

abbrev pub is_root : Node → Bool
is_root n = not (is_some n.above)

pub record EntersNode (k : ℕ) (node : Node) (before : List Step) (n : NodeCells) (cells : List Step) : Type 0 where
  pub bound : KnowsBound node.bindings.now n.bound
  pub enters : Enters k before (λ x. list_any (declares_cell (is_root node) n.bound x) node.code.now.decls) n.own cells
