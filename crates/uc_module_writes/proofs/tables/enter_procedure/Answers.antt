use Rattle.std.proofs.Common.{◌∙◌}
use Rattle.uc_written_once.specs.Effects.{procedure_by}
use Rattle.uc_module_writes.proofs.Entered.{none_declared, some_declared}
use Rattle.uc_module_writes.proofs.tables.enter_procedure.Goals as goal

pub returns-in-None-clause-procedures : goal.returns-in-None-clause-procedures
returns-in-None-clause-procedures c = λ f. none_declared c.args.declaration.now c.in-None.ensures (procedure_by c.args.effects.now f) f

pub returns-in_ok-enter_procedure-in-Some-clause-procedures : goal.returns-in_ok-enter_procedure-in-Some-clause-procedures
returns-in_ok-enter_procedure-in-Some-clause-procedures c =
    λ f. c.in_ok-enter_procedure-in-Some.ensures.procedures f ∙ some_declared c.args.declaration.now _ c.in-Some.ensures (procedure_by c.args.effects.now f) f
