-- Circuits that are being built: inputs, and then gates, each over what stands before it.
use Rattle.std.specs.Prelude.{◌≡◌, ℕ, ◌+◌, ◌<◌, ◌^◌, Bool, List, ◌++◌, length, map, replicate, Option, None, Some, slice_get}
use Rattle.uc_circuit.specs.declared.gate.Gate.{Gate}
use Rattle.uc_circuit.specs.Gates.{OperandsBelow, gate_value}

-- the number of inputs, which are the first variables, and the gates, which are the next
pub record Building : Type 0 where
  pub inputs : ℕ
  pub gates : List Gate

-- how many variables there are
abbrev pub size : Building → ℕ
size b = b.inputs + length b.gates

-- the operands of each gate stand before it, and numbers of 32 bits serve
pub record IsBuilding (b : Building) : Type 0 where
  pub ordered : (k : ℕ) (g : Gate) → slice_get b.gates k ≡ Some g → OperandsBelow (b.inputs + k) g
  pub small : size b < 2 ^ 32

-- no gate stands twice
abbrev pub NoGateTwice : Building → Type 0
NoGateTwice b = (j k : ℕ) (g : Gate) → slice_get b.gates j ≡ Some g → slice_get b.gates k ≡ Some g → j ≡ k

-- the new circuit has the inputs and the gates of the old one, and gates after them
pub record Grows (old new : Building) : Type 0 where
  pub inputs : new.inputs ≡ old.inputs
  pub more : List Gate
  pub gates : new.gates ≡ old.gates ++ more

-- each gate has the value of its function
abbrev pub Obeys : (ℕ → Bool) → Building → Type 0
Obeys v b = (k : ℕ) (g : Gate) → slice_get b.gates k ≡ Some g → v (b.inputs + k) ≡ gate_value v g

-- the nodes of the circuit
abbrev pub nodes_of : Building → List (Option Gate)
nodes_of b = replicate b.inputs None ++ map (λ g. Some g) b.gates
