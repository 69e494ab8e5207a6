-- The tree of the instances below a root.
use Rattle.std.specs.Prelude.{◌≡◌, ℕ, ◌<◌, ◌⊎◌, nat_eq, List, [], ◌∷◌, slice_get, Option, Some, None}
use Rattle.std.specs.Option.{option_and_then, option_map}
use Rattle.indexmap.specs.IndexMap.{get}
use Rattle.uc_syntax.specs.declared.declaration.Module.{Module}
use Rattle.uc_meaning.specs.Lookup.{System, InstanceParts, instance_of, main_module, module_named}
use Rattle.uc_uses.specs.declared.tree.Step.{Step}
use Rattle.uc_uses.specs.declared.tree.Node.{Node}
use Rattle.uc_uses.specs.declared.tree.InstanceTree.{InstanceTree}

abbrev pub step : ℕ → ℕ → Step
step k x = record { node = k; name = x }

-- the instance of a name in a node, if it has one, and its node, if the instance's module is there
abbrev pub instance_at : InstanceTree → ℕ → ℕ → Option (Option ℕ)
instance_at t k x = option_and_then (λ f. get nat_eq f.things x) (slice_get t.instances k)

-- the module at a node
abbrev pub code_at : InstanceTree → ℕ → Option Module
code_at t k = option_map (λ n. n.code.now) (slice_get t.nodes k)

-- the node of an instance: its module, and what is bound
abbrev pub IsNodeOf : System → List Node → ℕ → InstanceParts → Type 0
IsNodeOf system nodes j p = (n : Node) × (slice_get nodes j ≡ Some n) × (module_named system p.module_name ≡ Some n.code.now) × (n.bindings.now ≡ p.bindings)

-- what a node has for a name, and the instance of the name in the node's module
abbrev pub IsBelow : System → List Node → Option (Option ℕ) → Option InstanceParts → Type 0
IsBelow system nodes None None = Unit {0}
IsBelow system nodes (Some None) (Some p) = module_named system p.module_name ≡ None
IsBelow system nodes (Some (Some j)) (Some p) = IsNodeOf system nodes j p
IsBelow system nodes None (Some p) = ⊥
IsBelow system nodes (Some o) None = ⊥

-- the node stands as an instance in one before it, which leads to it
pub record IsInstanceIn (t : InstanceTree) (j : ℕ) (n : Node) : Type 0 where
  pub above : Step
  pub is : n.above ≡ Some above
  pub before : above.node < j
  pub leads : instance_at t above.node above.name ≡ Some (Some j)

-- the first node alone stands in none, and nothing is bound there
pub record IsFirst (j : ℕ) (n : Node) : Type 0 where
  pub first : j ≡ 0
  pub above : n.above ≡ None
  pub unbound : n.bindings.now ≡ []

abbrev pub Stands : InstanceTree → ℕ → Node → Type 0
Stands t j n = IsFirst j n ⊎ IsInstanceIn t j n

-- The first node is the root's, each node has the instances of its module, and each other node is that of one instance.
pub record IsTree (system : System) (t : InstanceTree) : Type 0 where
  pub root : code_at t 0 ≡ main_module system
  pub below : (k x : ℕ) (m : Module) → code_at t k ≡ Some m → IsBelow system t.nodes (instance_at t k x) (instance_of m x)
  pub above : (k x j : ℕ) → instance_at t k x ≡ Some (Some j) → (n : Node) × (slice_get t.nodes j ≡ Some n) × (n.above ≡ Some (step k x))
  pub stands : (j : ℕ) (n : Node) → slice_get t.nodes j ≡ Some n → Stands t j n

-- the node at the end of a path, from a node down
abbrev pub joined : Option (Option ℕ) → Option ℕ
joined None = None
joined (Some o) = o

unfoldable pub node_from : InstanceTree → ℕ → List ℕ → Option ℕ
node_from t k [] = Some k
node_from t k (x ∷ path) = option_and_then (λ j. node_from t j path) (joined (instance_at t k x))

abbrev pub node_at : InstanceTree → List ℕ → Option ℕ
node_at t path = node_from t 0 path

abbrev pub led_on : Option Step → (ℕ → Option Step) → Option (Option ℕ) → Option Step
led_on here on None = here
led_on here on (Some None) = None
led_on here on (Some (Some j)) = on j

-- where a name of a node and the names behind its dots lead; none: into an instance of a module that isn't there
unfoldable pub led_node : InstanceTree → ℕ → ℕ → List ℕ → Option Step
led_node t k x [] = Some (step k x)
led_node t k x (y ∷ ys) = led_on (Some (step k x)) (λ j. led_node t j y ys) (instance_at t k x)
