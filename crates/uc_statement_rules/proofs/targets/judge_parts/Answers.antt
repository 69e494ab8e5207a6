use Rattle.uc_statement_rules.proofs.Parts.{parts_more}
use Rattle.uc_statement_rules.proofs.targets.judge_parts.Goals as goal

pub loop-part-preserved : goal.loop-part-preserved
loop-part-preserved c =
    parts_more c.args.scope.now c.args.start c.args.parts.now c.args.first.now c.loop-part.part-index c.loop-part.ty c.in_ok-ty.ty c.loop-part.first c.judge_part.new.first c.part-item.result c.part-item.result
    c.loop-part.invariant c.loop-part-test.true c.part-item.is c.in_ok-ty.ensures
