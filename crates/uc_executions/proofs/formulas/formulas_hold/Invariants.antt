use Rattle.uc_layout.specs.Instances.{instance_meant}
use Rattle.uc_executions.specs.Formulas.{scope_seen, formulas_at}
use Rattle.uc_executions.proofs.Questions.{LeftFrom}
use Rattle.uc_executions.proofs.formulas.formulas_hold.Given as goal

abbrev pub invariant-loop-here : goal.invariant-loop-here
invariant-loop-here l = LeftFrom (λ i. formulas_at l.layout l.kind (scope_seen l.seen) (instance_meant i)) l.instances l.here-index
