use Rattle.std.proofs.Common.{◌≡◌, map, take}
use Rattle.uc_circuit.specs.Signals.{turned}
use Rattle.uc_circuit.proofs.bitwise.turn_each.Given as goal

abbrev pub invariant-loop-signal : goal.invariant-loop-signal
invariant-loop-signal l = l.turned.items ≡ map turned (take l.signal-index l.a)
