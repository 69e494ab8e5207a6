use Rattle.uc_circuit.proofs.Evaluated.{evaluates_all}
use Rattle.uc_circuit.proofs.Reaching.{inputs_reach_all}
use Rattle.uc_circuit.proofs.Settling.{ends_with_all}
use Rattle.uc_circuit.proofs.laws.propagation_fixes_gates.Goals as goal

pub returns-clause-values : goal.returns-clause-values
returns-clause-values c = evaluates_all

pub returns-clause-reached : goal.returns-clause-reached
returns-clause-reached c = inputs_reach_all

pub returns-clause-ends : goal.returns-clause-ends
returns-clause-ends c = ends_with_all
