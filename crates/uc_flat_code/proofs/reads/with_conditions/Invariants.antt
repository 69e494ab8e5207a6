use Rattle.uc_syntax.specs.declared.statement.Arm.{Arm}
use Rattle.uc_syntax.specs.declared.statement.Stmt.{Stmt}
use Rattle.uc_syntax.proofs.Added.{AddedUpTo}
use Rattle.uc_flat_code.specs.Once.{read_by}
use Rattle.uc_flat_code.proofs.reads.with_conditions.Given as goal

abbrev pub invariant-loop-arm : goal.invariant-loop-arm
invariant-loop-arm l = AddedUpTo (λ (a : Arm Stmt). read_by l.names l.first a.condition) l.arms l.fn.before l.arm-index l.all
