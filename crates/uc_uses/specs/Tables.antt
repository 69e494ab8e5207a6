-- The uses of all nodes of a tree, by their numbers.
use Rattle.std.specs.Prelude.{◌≡◌, ℕ, nat_eq, List, slice_get, Option, Some, None}
use Rattle.std.specs.Option.{option_and_then}
use Rattle.indexmap.specs.IndexMap.{get}
use Rattle.uc_uses.specs.declared.tree.InstanceTree.{InstanceTree}
use Rattle.uc_uses.specs.declared.uses.UseKind.{UseKind}
use Rattle.uc_uses.specs.declared.uses.UseKind.TheVariants.{Define, Procedure, Input}
use Rattle.uc_uses.specs.declared.uses.UseName.{UseName}
use Rattle.uc_uses.specs.declared.uses.NumberedUse.{NumberedUse}
use Rattle.uc_uses.specs.declared.table.NodeUses.{NodeUses}
use Rattle.uc_uses.specs.declared.table.UseTable.{UseTable}
use Rattle.uc_uses.specs.Sources.{SourceMeant, source_in, source_meant}

abbrev pub use_name : UseKind → ℕ → ℕ → UseName
use_name kind k x = record { kind = kind; node = k; name = x }

-- a number, and the text that the use of that number has
abbrev pub HasSource : List NumberedUse → UseName → Option ℕ → Option SourceMeant → Type 0
HasSource uses name None None = Unit {0}
HasSource uses name (Some i) (Some source) = (e : NumberedUse) × (slice_get uses i ≡ Some e) × (e.owner ≡ name) × (source_meant e.source ≡ source)
HasSource uses name None (Some source) = ⊥
HasSource uses name (Some i) None = ⊥

abbrev pub numbers_of : NodeUses → UseKind → ℕ → Option ℕ
numbers_of n Define x = get nat_eq n.defines.things x
numbers_of n Procedure x = get nat_eq n.procedures.things x
numbers_of n Input x = get nat_eq n.inputs.things x

abbrev pub number : UseTable → UseName → Option ℕ
number u name = option_and_then (λ n. numbers_of n name.kind name.name) (slice_get u.nodes name.node)

-- the text of a use of a tree
abbrev pub source_at : InstanceTree → UseName → Option SourceMeant
source_at t name = option_and_then (λ n. source_in name.kind name.node n name.name) (slice_get t.nodes name.node)

-- Each define, procedure and bound input of each node has a number, under which its name and its text stand, and no other has one.
pub record KnowsUses (t : InstanceTree) (u : UseTable) : Type 0 where
  pub sources : (name : UseName) → HasSource u.uses name (number u name) (source_at t name)
  pub owners : (i : ℕ) (e : NumberedUse) → slice_get u.uses i ≡ Some e → number u e.owner ≡ Some i
