use Rattle.uc_executions.specs.Formulas.{scope_seen, formula_asked}
use Rattle.uc_executions.proofs.Questions.{LeftFrom}
use Rattle.uc_executions.proofs.formulas.formulas_at.Given as goal

abbrev pub invariant-loop-decl : goal.invariant-loop-decl
invariant-loop-decl l = LeftFrom (formula_asked l.layout l.kind (scope_seen l.seen l.here.path)) l.decl-items l.decl-index
