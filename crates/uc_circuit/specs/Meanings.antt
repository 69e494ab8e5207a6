-- What signals of a circuit mean: what they are wherever each gate has the value of its function.
use Rattle.std.specs.Prelude.{◌≡◌, ℕ, Bool, List, length}
use Rattle.uc_circuit.specs.declared.signal.Signal.{Signal}
use Rattle.uc_circuit.specs.Signals.{signal_value, number, Below, AllBelow}
use Rattle.uc_circuit.specs.Building.{Building, size, Obeys}

-- the signal is of the circuit and has this value
pub record Means (b : Building) (meaning : (ℕ → Bool) → Bool) (s : Signal) : Type 0 where
  pub below : Below (size b) s
  pub value : (v : ℕ → Bool) → Obeys v b → signal_value v s ≡ meaning v

-- so many signals are of the circuit and stand for this number
pub record Amounts (b : Building) (width : ℕ) (meaning : (ℕ → Bool) → ℕ) (signals : List Signal) : Type 0 where
  pub below : AllBelow (size b) signals
  pub long : length signals ≡ width
  pub value : (v : ℕ → Bool) → Obeys v b → number v signals ≡ meaning v

-- so many constant signals stand for the number
pub record AreConstant (width n : ℕ) (signals : List Signal) : Type 0 where
  pub below : AllBelow 0 signals
  pub long : length signals ≡ width
  pub value : (v : ℕ → Bool) → number v signals ≡ n
