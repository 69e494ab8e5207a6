use Rattle.uc_expression_rules.proofs.Joined.{condition_noted}
use Rattle.uc_expression_rules.proofs.judging.note_condition.Goals as goal

pub returns : goal.returns
returns c =
    condition_noted c.args.scope.now c.args.e.now c.args.first.now c.judge.new.first c.settle.new.first c.in_ok-ty.ty c.place_of.result c.condition.result c.in_ok-ty.ensures (c.place_of.ensures c.args.scope.now) c.condition.ensures c.settle.ensures.faults
