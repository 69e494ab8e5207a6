use Rattle.uc_executions.specs.Formulas.{hyperaxioms_asked}
use Rattle.uc_executions.proofs.Questions.{decided_as}
use Rattle.uc_executions.proofs.Truths.{hyperaxioms_decided}
use Rattle.uc_executions.proofs.asking.hyperaxioms_hold.Goals as goal

pub returns-clause-value : goal.returns-clause-value
returns-clause-value c =
    decided_as (hyperaxioms_asked c.args.layout.now c.args.interp.now c.args.arity c.args.copies.now).holds c.hyper_formulas_hold.result
    (hyperaxioms_decided c.args.layout.now c.args.interp.now c.args.arity c.args.copies.now) c.hyper_formulas_hold.ensures.value
