use Rattle.uc_executions.specs.Formulas.{hyperinvariants_asked}
use Rattle.uc_executions.proofs.Questions.{decided_as}
use Rattle.uc_executions.proofs.Truths.{hyperinvariants_decided}
use Rattle.uc_executions.proofs.asking.hyperinvariants_hold.Goals as goal

pub returns-clause-value : goal.returns-clause-value
returns-clause-value c =
    decided_as (hyperinvariants_asked c.args.layout.now c.args.interp.now c.args.arity c.args.copies.now).holds c.hyper_formulas_hold.result
    (hyperinvariants_decided c.args.layout.now c.args.interp.now c.args.arity c.args.copies.now) c.hyper_formulas_hold.ensures.value
