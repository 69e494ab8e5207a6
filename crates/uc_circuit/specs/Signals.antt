-- Signals, and the numbers that lists of them stand for.
use Rattle.std.specs.Prelude.{ℕ, ◌+◌, ◌*◌, ◌<◌, Bool, not, if◌then◌else◌, List, [], ◌∷◌, All}
use Rattle.uc_circuit.specs.Literals.{literal_value, negate}
use Rattle.uc_circuit.specs.declared.signal.Signal.{Signal}
use Rattle.uc_circuit.specs.declared.signal.Signal.TheVariants.{Constant, Of}

-- the value of a signal, where v gives each variable its value
abbrev pub signal_value : (ℕ → Bool) → Signal → Bool
signal_value v (Constant b) = b
signal_value v (Of l) = literal_value v l

-- the signal that is true where this one is false
abbrev pub turned : Signal → Signal
turned (Constant b) = Constant (not b)
turned (Of l) = Of (negate l)

-- whether two truths are not the same
abbrev pub differ : Bool → Bool → Bool
differ a b = if a then not b else b

abbrev pub bit : Bool → ℕ
bit b = if b then 1 else 0

-- the number whose bits are the values of the signals, from the lowest
abbrev pub number : (ℕ → Bool) → List Signal → ℕ
number v [] = 0
number v (s ∷ rest) = bit (signal_value v s) + 2 * number v rest

-- the signal is constant, or its variable is below the bound
abbrev pub Below : ℕ → Signal → Type 0
Below n (Constant b) = Unit {0}
Below n (Of l) = l.var < n

abbrev pub AllBelow : ℕ → List Signal → Type 0
AllBelow n signals = All (Below n) signals
