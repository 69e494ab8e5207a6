use Rattle.uc_statement_rules.proofs.Joined.{range_of_parts, settles}
use Rattle.uc_statement_rules.proofs.ranges.judge_range.Goals as goal

pub returns : goal.returns
returns c =
    range_of_parts c.args.scope.now c.args.place c.args.written.now c.args.from c.args.to c.args.first.now c.judge_bound-low.new.first c.judge_bound-high.new.first c.settle-both.new.first c.settle.new.first
    c.judge_bound-low.result c.judge_bound-high.result c.settle-both.result c.settle.result c.in_ok-outcome.outcome
    c.judge_bound-low.ensures c.judge_bound-high.ensures (settles c.args.place c.settle-both.ensures.ty c.settle-both.ensures.faults c.bounds_outcome.ensures)
    c.in_ok-outcome.ensures c.settle.ensures.ty c.settle.ensures.faults
