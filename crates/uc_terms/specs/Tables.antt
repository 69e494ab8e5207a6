-- Tables of terms: lists of nodes, in the order of their numbers.
use Rattle.std.specs.Prelude.{◌≡◌, ℕ, ◌<◌, ◌^◌, List, [], ◌∷◌, ◌++◌, length, slice_get, Option, Some, None, All}
use Rattle.std.specs.Option.{option_map}
use Rattle.uc_ops.specs.declared.op.Op.{Op}
use Rattle.uc_ops.specs.declared.node.Node.{Node}
use Rattle.uc_ops.specs.Typing.{Suits, Valid, type_of, types_at}

abbrev pub parts_in : Option Node → List ℕ
parts_in None = []
parts_in (Some node) = node.parts

-- the parts of a term, by its number
unfoldable pub parts_at : List Node → ℕ → List ℕ
parts_at nodes t = parts_in (slice_get nodes t)

-- the term has this operation
abbrev pub HasOp : List Node → ℕ → Op → Type 0
HasOp nodes t op = option_map (λ n. n.op) (slice_get nodes t) ≡ Some op

-- the parts stand before the node and suit its operation, and the type is that of the operation
pub record IsFine (nodes : List Node) (place : ℕ) (node : Node) : Type 0 where
  pub before : All (λ p. p < place) node.parts
  pub suits : Suits node.op (types_at nodes node.parts)
  pub typed : node.ty ≡ type_of node.op (types_at nodes node.parts)
  pub valid : Valid node.ty

-- each node is well typed
abbrev pub WellTyped : List Node → Type 0
WellTyped nodes = (place : ℕ) (node : Node) → slice_get nodes place ≡ Some node → IsFine nodes place node

-- each node is well typed, and its number has 32 bits
pub record IsTable (nodes : List Node) : Type 0 where
  pub well : WellTyped nodes
  pub small : length nodes < 2 ^ 32

-- no two nodes have one operation and the same parts
abbrev pub NoTwoEqual : List Node → Type 0
NoTwoEqual nodes =
    (j k : ℕ) (m n : Node) → slice_get nodes j ≡ Some m → slice_get nodes k ≡ Some n → m.op ≡ n.op → m.parts ≡ n.parts → j ≡ k

-- the node that an operation on parts makes
abbrev pub node_of : List Node → Op → List ℕ → Node
node_of nodes op parts = record { op = op; parts = parts; ty = type_of op (types_at nodes parts) }

-- a node has the operation on the parts
pub record Holds (nodes : List Node) (op : Op) (parts : List ℕ) : Type 0 where
  pub place : ℕ
  pub node : Node
  pub there : slice_get nodes place ≡ Some node
  pub same_op : node.op ≡ op
  pub same_parts : node.parts ≡ parts

-- the new table goes on from the old one, and t is the operation on the parts there
pub record Makes (old new : List Node) (t : ℕ) (op : Op) (parts : List ℕ) : Type 0 where
  pub grown : (more : List Node) × (new ≡ old ++ more)
  pub before : All (λ p. p < t) parts
  pub node : slice_get new t ≡ Some (node_of old op parts)

-- the table has one node more where no node was equal, and else none
pub record Adds (old new : List Node) (op : Op) (parts : List ℕ) : Type 0 where
  pub shared : Holds old op parts → new ≡ old
  pub added : ¬ Holds old op parts → new ≡ old ++ node_of old op parts ∷ []
