use Rattle.std.proofs.Common.{take}
use Rattle.std.specs.List.{list_any}
use Rattle.uc_circuit.specs.Building.{Grows}
use Rattle.uc_circuit.specs.Meanings.{Means}
use Rattle.uc_blast.specs.Words.{words_at, first}
use Rattle.uc_blast.proofs.logic.any_of.Given as goal

abbrev pub invariant-loop-place : goal.invariant-loop-place
invariant-loop-place l = Grows l.fn.gates l.gates × Means l.gates (λ v. list_any (first v) (take l.place (words_at l.words l.parts))) l.any
