use Rattle.uc_statement_rules.proofs.Joined.{call_of_parts}
use Rattle.uc_statement_rules.proofs.calls.judge_call.Goals as goal

pub returns : goal.returns
returns c =
    call_of_parts c.args.scope.now c.args.place c.args.targets.now c.args.identifier c.args.arguments.now c.args.first.now c.judge_targets.new.first c.judge_all.new.first c.note_called.new.first c.in_ok-written.written c.in_ok-given.given c.as_slice.result.now c.as_slice-2.result.now
    c.in_ok-written.ensures c.in_ok-given.ensures c.as_slice.ensures c.as_slice-2.ensures c.in_ok-note_called.ensures
