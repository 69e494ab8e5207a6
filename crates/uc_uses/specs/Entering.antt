-- Uses that are entered.
use Rattle.std.specs.Prelude.{◌≡◌, ◌⊎◌, ℕ, nat_eq, List, slice_get, Option, Some}
use Rattle.indexmap.specs.IndexMap.{get}
use Rattle.uc_names.specs.declared.firsts.Firsts.{Firsts}
use Rattle.uc_uses.specs.declared.tree.Node.{Node}
use Rattle.uc_uses.specs.declared.uses.UseKind.{UseKind}
use Rattle.uc_uses.specs.declared.uses.NumberedUse.{NumberedUse}
use Rattle.uc_uses.specs.declared.table.NodeUses.{NodeUses}
use Rattle.uc_uses.specs.Sources.{SourceMeant, source_in}
use Rattle.uc_uses.specs.Tables.{HasSource, numbers_of, use_name}

-- The uses of a kind of a node are entered behind others, each with its text.
pub record Enters (kind : UseKind) (k : ℕ) (before : List NumberedUse) (expect : ℕ → Option SourceMeant) (table : Firsts ℕ) (uses : List NumberedUse) : Type 0 where
  pub kept : (i : ℕ) (e : NumberedUse) → slice_get before i ≡ Some e → slice_get uses i ≡ Some e
  pub sources : (x : ℕ) → HasSource uses (use_name kind k x) (get nat_eq table.things x) (expect x)
  pub new : (i : ℕ) (e : NumberedUse) → slice_get uses i ≡ Some e → (slice_get before i ≡ Some e) ⊎ ((x : ℕ) × (e.owner ≡ use_name kind k x) × (get nat_eq table.things x ≡ Some i))

-- the uses of a node
pub record EntersNode (k : ℕ) (node : Node) (before : List NumberedUse) (n : NodeUses) (uses : List NumberedUse) : Type 0 where
  pub kept : (i : ℕ) (e : NumberedUse) → slice_get before i ≡ Some e → slice_get uses i ≡ Some e
  pub sources : (kind : UseKind) (x : ℕ) → HasSource uses (use_name kind k x) (numbers_of n kind x) (source_in kind k node x)
  pub new : (i : ℕ) (e : NumberedUse) → slice_get uses i ≡ Some e → (slice_get before i ≡ Some e) ⊎ ((kind : UseKind) × (x : ℕ) × (e.owner ≡ use_name kind k x) × (numbers_of n kind x ≡ Some i))
