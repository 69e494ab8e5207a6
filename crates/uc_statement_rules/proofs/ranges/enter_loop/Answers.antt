use Rattle.uc_statement_rules.proofs.Joined.{head_of_parts}
use Rattle.uc_statement_rules.proofs.Noted.{on_ok}
use Rattle.uc_statement_rules.proofs.ranges.enter_loop.Goals as goal

pub returns : goal.returns
returns c =
    on_ok c.bind.result
    (head_of_parts c.args.scope.now c.bind.new.self c.args.place c.args.variable c.args.written.now c.args.from c.args.to c.args.first.now c.note_taken.new.first c.note_written_type.new.first c.judge_range.new.first c.in_ok-ty.ty
    c.note_taken.ensures c.in_ok-note_written_type.ensures c.in_ok-ty.ensures) c.bind.ensures.ok
