-- What an adder of three bits gives.
use Rattle.std.specs.Prelude.{◌≡◌, ℕ, ◌+◌, ◌*◌, Bool}
use Rattle.uc_circuit.specs.declared.signal.Signal.{Signal}
use Rattle.uc_circuit.specs.Signals.{signal_value, bit, Below}
use Rattle.uc_circuit.specs.Building.{Building, size, Obeys}

-- the sum of three bits has this low bit and this carry
pub record Adds (b : Building) (x y carry sum next : Signal) : Type 0 where
  pub sum_below : Below (size b) sum
  pub next_below : Below (size b) next
  pub value : (v : ℕ → Bool) → Obeys v b → bit (signal_value v sum) + 2 * bit (signal_value v next) ≡ bit (signal_value v x) + bit (signal_value v y) + bit (signal_value v carry)
