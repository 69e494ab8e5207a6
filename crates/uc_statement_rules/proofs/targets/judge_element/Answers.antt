use Rattle.uc_statement_rules.proofs.Parts.{element_of_parts}
use Rattle.uc_statement_rules.proofs.targets.judge_element.Goals as goal

pub returns : goal.returns
returns c =
    element_of_parts c.args.scope.now c.args.before.now c.args.place c.args.index.now c.in_ok-index.index c.in_ok-outcome.outcome c.args.first.now c.judge.new.first c.settle.new.first c.settle.result
    c.in_ok-index.ensures c.in_ok-outcome.ensures c.settle.ensures.ty c.settle.ensures.faults
