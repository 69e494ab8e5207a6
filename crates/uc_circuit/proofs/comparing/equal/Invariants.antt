use Rattle.std.proofs.Common.{take}
use Rattle.std.specs.Prelude.{nat_eq}
use Rattle.uc_circuit.specs.Signals.{number}
use Rattle.uc_circuit.specs.Building.{Grows}
use Rattle.uc_circuit.specs.Meanings.{Means}
use Rattle.uc_circuit.proofs.comparing.equal.Given as goal

abbrev pub invariant-loop-i : goal.invariant-loop-i
invariant-loop-i l = Grows l.fn.gates l.gates × Means l.gates (λ v. nat_eq (number v (take l.i l.a)) (number v (take l.i l.b))) l.same
