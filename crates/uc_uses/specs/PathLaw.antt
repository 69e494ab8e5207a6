-- Nodes of a tree and paths of instances.
use Rattle.std.specs.Prelude.{◌≡◌, ℕ, List, [], ◌∷◌, ◌++◌, Option, Some, None}
use Rattle.std.specs.Option.{option_and_then}
use Rattle.uc_syntax.specs.declared.declaration.Module.{Module}
use Rattle.uc_meaning.specs.Lookup.{System, main_module, module_at}
use Rattle.uc_order_rules.specs.Roots.{NameAt, led}
use Rattle.uc_uses.specs.declared.tree.Step.{Step}
use Rattle.uc_uses.specs.declared.tree.InstanceTree.{InstanceTree}
use Rattle.uc_uses.specs.Trees.{IsTree, code_at, instance_at, joined, led_node, node_at}

-- a name at a path as that of a node; none: no module is at the path
abbrev pub IsLed : System → InstanceTree → Option Step → NameAt → Type 0
IsLed system t None n = module_at system n.path ≡ None
IsLed system t (Some s) n = (node_at t n.path ≡ Some s.node) × (n.name ≡ s.name)

-- Each path of a module leads to one node with that module, and each node has one path.
pub record NodesHavePaths (system : System) (t : InstanceTree) : Type 0 where
  pub codes : (path : List ℕ) → option_and_then (code_at t) (node_at t path) ≡ module_at system path
  pub alone : (p q : List ℕ) (k : ℕ) (m : Module) → code_at t k ≡ Some m → node_at t p ≡ Some k → node_at t q ≡ Some k → p ≡ q
  pub reached : (k : ℕ) (m : Module) → code_at t k ≡ Some m → (path : List ℕ) × (node_at t path ≡ Some k)
  pub last : (path : List ℕ) (x : ℕ) → node_at t (path ++ x ∷ []) ≡ option_and_then (λ k. joined (instance_at t k x)) (node_at t path)
  pub leads : (path : List ℕ) (k : ℕ) (m : Module) (x : ℕ) (ys : List ℕ) → node_at t path ≡ Some k → code_at t k ≡ Some m → IsLed system t (led_node t k x ys) (led system path x ys)

abbrev pub TreesHavePaths : Type 0
TreesHavePaths = (system : System) (t : InstanceTree) (m : Module) → main_module system ≡ Some m → IsTree system t → NodesHavePaths system t
