-- What a shift by a number of places gives.
use Rattle.std.specs.Prelude.{ℕ, ◌-◌, ◌/◌, ◌^◌, Bool, false, List, ◌++◌, length, take, drop, replicate, if◌then◌else◌}
use Rattle.uc_values.specs.Operators.{complemented, shifted_left}
use Rattle.uc_circuit.specs.declared.signal.Signal.{Signal}
use Rattle.uc_circuit.specs.declared.signal.Signal.TheVariants.{Constant}
use Rattle.uc_circuit.specs.declared.shifting.Shift.{Shift}
use Rattle.uc_circuit.specs.declared.shifting.Shift.TheVariants.{Left, Right}
use Rattle.uc_circuit.specs.Signals.{signal_value}

-- a shift to the right that fills with copies of a bit
abbrev pub shifted_down : ℕ → Bool → ℕ → ℕ → ℕ
shifted_down width fill a places = if fill then complemented width (complemented width a / 2 ^ places) else a / 2 ^ places

-- the number of that width, shifted by so many places
abbrev pub shifted : (ℕ → Bool) → ℕ → Shift → ℕ → ℕ → ℕ
shifted v width Left a places = shifted_left width a places
shifted v width (Right fill) a places = shifted_down width (signal_value v fill) a places

-- the signal that fills
abbrev pub fill_of : Shift → Signal
fill_of Left = Constant false
fill_of (Right fill) = fill

-- the signals, moved by so many places
abbrev pub moved : Shift → List Signal → ℕ → List Signal
moved Left a places = replicate places (Constant false) ++ take (length a - places) a
moved (Right fill) a places = drop places a ++ replicate places fill
