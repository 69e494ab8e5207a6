use Rattle.uc_meaning.specs.Code.{requires_in}
use Rattle.uc_executions.specs.Formulas.{truth_if}
use Rattle.uc_executions.proofs.Questions.{LeftFrom}
use Rattle.uc_executions.proofs.required.clauses_hold.Given as goal

abbrev pub invariant-loop-clause : goal.invariant-loop-clause
invariant-loop-clause l = LeftFrom (λ c. truth_if l.layout l.scope (requires_in c)) l.clauses l.clause-index
