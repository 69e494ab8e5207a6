use Rattle.std.proofs.Common.{Some, None, ap}
use Rattle.uc_rules.specs.Expressions.{kept_where}
use Rattle.uc_expression_rules.proofs.Arms.{arm_found}
use Rattle.uc_expression_rules.proofs.Joined.{settles}
use Rattle.uc_expression_rules.proofs.branches.joined.Goals as goal

pub returns-in-Some : goal.returns-in-Some
returns-in-Some c old own before =
    arm_found c.args.branch own old c.args.first.now c.settle-kept.new.first c.settle-ty.new.first c.args.rest c.settle-kept.result c.settle-ty.result c.settle-ty.result before
    (settles c.args.branch.begin c.settle-kept.ensures.ty c.settle-kept.ensures.faults c.condition.ensures)
    (settles c.args.branch.place c.settle-ty.ensures.ty c.settle-ty.ensures.faults c.same_outcome.ensures)
    (ap (λ k. kept_where k c.settle-ty.result) c.in-Some.is)

pub returns : goal.returns
returns c old own before =
    arm_found c.args.branch own old c.args.first.now c.settle-kept.new.first c.settle-ty.new.first c.args.rest c.settle-kept.result c.settle-ty.result None before
    (settles c.args.branch.begin c.settle-kept.ensures.ty c.settle-kept.ensures.faults c.condition.ensures)
    (settles c.args.branch.place c.settle-ty.ensures.ty c.settle-ty.ensures.faults c.same_outcome.ensures)
    (ap (λ k. kept_where k c.settle-ty.result) c.in-None.is)
