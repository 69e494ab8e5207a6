use Rattle.uc_statement_rules.proofs.Joined.{local_of_parts}
use Rattle.uc_statement_rules.proofs.Noted.{on_ok}
use Rattle.uc_statement_rules.proofs.declared.judge_local.Goals as goal

pub returns : goal.returns
returns c =
    on_ok c.note_all_declared.result
    (local_of_parts c.args.scope.now c.note_all_declared.new.scope c.args.place c.args.identifiers.now c.args.ty.now c.args.first.now c.note_where.new.first c.note_type.new.first c.note_all_declared.new.first c.in_ok-ty.ty c.is_in_next.result
    c.is_in_next.ensures c.note_where.ensures c.in_ok-ty.ensures.ty c.in_ok-ty.ensures.faults) c.note_all_declared.ensures
