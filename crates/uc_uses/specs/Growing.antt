-- A tree that grows: the nodes get their instances in order.
use Rattle.std.specs.Prelude.{◌≡◌, ◌⊎◌, ℕ, ◌≤◌, nat_eq, List, [], ◌∷◌, ◌++◌, length, slice_get, Option, Some, None}
use Rattle.std.specs.List.{filter_map, find}
use Rattle.indexmap.specs.IndexMap.{get}
use Rattle.uc_syntax.specs.declared.declaration.Decl.{Decl}
use Rattle.uc_syntax.specs.declared.declaration.Module.{Module}
use Rattle.uc_meaning.specs.Lookup.{InstanceParts, instance_in}
use Rattle.uc_names.specs.declared.firsts.Firsts.{Firsts}
use Rattle.uc_uses.specs.declared.modules.ModuleTable.{ModuleTable}
use Rattle.uc_uses.specs.declared.tree.Node.{Node}
use Rattle.uc_uses.specs.declared.tree.InstanceTree.{InstanceTree}
use Rattle.uc_uses.specs.Modules.{named_in}
use Rattle.uc_uses.specs.Trees.{step}

-- what is found for a name, and the instance of the name among some declarations, by the table of modules
abbrev pub IsFound : ModuleTable → List Node → Option (Option ℕ) → Option InstanceParts → Type 0
IsFound modules nodes None None = Unit {0}
IsFound modules nodes (Some None) (Some p) = named_in modules.modules p.module_name ≡ None
IsFound modules nodes (Some (Some j)) (Some p) = (n : Node) × (slice_get nodes j ≡ Some n) × (named_in modules.modules p.module_name ≡ Some n.code.now) × (n.bindings.now ≡ p.bindings)
IsFound modules nodes None (Some p) = ⊥
IsFound modules nodes (Some o) None = ⊥

abbrev pub instance_among : List Decl → ℕ → Option InstanceParts
instance_among ds x = find (λ i. nat_eq i.name x) (filter_map instance_in ds)

-- Of a node the instances of some declarations are found, and their nodes stand behind those that were there before.
pub record Adds (modules : ModuleTable) (k : ℕ) (before : List Node) (ds : List Decl) (found : Firsts (Option ℕ)) (nodes : List Node) : Type 0 where
  pub longer : length before ≤ length nodes
  pub kept : (j : ℕ) (n : Node) → slice_get before j ≡ Some n → slice_get nodes j ≡ Some n
  pub below : (x : ℕ) → IsFound modules nodes (get nat_eq found.things x) (instance_among ds x)
  pub above : (x j : ℕ) → get nat_eq found.things x ≡ Some (Some j) → (n : Node) × (slice_get nodes j ≡ Some n) × (n.above ≡ Some (step k x))
  pub new : (j : ℕ) (n : Node) → slice_get nodes j ≡ Some n → (slice_get before j ≡ Some n) ⊎ ((x : ℕ) × (length before ≤ j) × (n.above ≡ Some (step k x)) × (get nat_eq found.things x ≡ Some (Some j)))

-- the instances of a node are added
pub record Grows (modules : ModuleTable) (k : ℕ) (ds : List Decl) (old new : InstanceTree) : Type 0 where
  pub found : Firsts (Option ℕ)
  pub instances : new.instances ≡ old.instances ++ found ∷ []
  pub adds : Adds modules k old.nodes ds found new.nodes

-- the root, and no instances yet
pub record IsRootAlone (m : Module) (t : InstanceTree) : Type 0 where
  pub root : Node
  pub nodes : t.nodes ≡ root ∷ []
  pub code : root.code.now ≡ m
  pub above : root.above ≡ None
  pub unbound : root.bindings.now ≡ []
  pub none : t.instances ≡ []
