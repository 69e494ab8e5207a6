use Rattle.uc_statement_rules.proofs.Parts.{target_of_parts}
use Rattle.uc_statement_rules.proofs.targets.judge_target.Goals as goal

pub returns : goal.returns
returns c =
    target_of_parts c.args.scope.now c.args.target.now c.in_ok-outcome.outcome c.as_slice.result.now c.args.first.now c.settle-start.new.first c.judge_parts.new.first c.settle-start.result c.in_ok-ty.ty
    (c.in_ok-outcome.ensures c.args.target.now.place) c.settle-start.ensures.ty c.settle-start.ensures.faults c.as_slice.ensures c.in_ok-ty.ensures
