use Rattle.std.proofs.Common.{◌≡◌, take}
use Rattle.uc_circuit.specs.Circuits.{input_values}
use Rattle.uc_learner.specs.Learners.{valuation}
use Rattle.uc_solver.specs.Searches.{first_values}
use Rattle.uc_solver.proofs.search.inputs.Given as goal

abbrev pub invariant-loop-number : goal.invariant-loop-number
invariant-loop-number l = l.inputs.items ≡ input_values (take l.number l.circuit) (first_values (valuation l.learner.values) l.number)
