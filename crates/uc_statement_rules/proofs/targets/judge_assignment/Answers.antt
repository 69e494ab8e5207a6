use Rattle.uc_statement_rules.proofs.Joined.{assign_of_parts}
use Rattle.uc_statement_rules.proofs.targets.judge_assignment.Goals as goal

pub returns : goal.returns
returns c =
    assign_of_parts c.args.scope.now c.args.place c.args.targets.now c.args.sources.now c.args.first.now c.judge_targets.new.first c.judge_all.new.first c.note_misfit.new.first c.in_ok-written.written c.in_ok-values.values c.as_slice.result.now c.as_slice-2.result.now
    c.in_ok-written.ensures c.in_ok-values.ensures c.as_slice.ensures c.as_slice-2.ensures c.note_misfit.ensures
