use Rattle.uc_meaning.specs.Steps.{scope_of}
use Rattle.uc_meaning.specs.Runs.{position_at}
use Rattle.uc_executions.specs.Judged.{falsity_asked}
use Rattle.uc_executions.proofs.Questions.{LeftFrom}
use Rattle.uc_executions.proofs.judged.is_false_in_each.Given as goal

abbrev pub invariant-loop-run : goal.invariant-loop-run
invariant-loop-run l = LeftFrom (λ run. falsity_asked l.layout (scope_of l.interp l.path (position_at l.position run).0) l.formula) l.copies l.run-index
