use Rattle.uc_declaration_rules.proofs.Forms.{on_ok}
use Rattle.uc_declaration_rules.proofs.Joined.{known_of_parts}
use Rattle.uc_declaration_rules.proofs.procedures.judge_known.Goals as goal

pub returns : goal.returns
returns c =
    on_ok c.judge_body.result
    (known_of_parts c.args.asked.now c.args.known c.in_body.result c.args.procedure.now c.as_slice-clauses.result.now c.in_ok-modified.modified c.as_slice-body.result.now
    c.args.first.now c.judge_modifying.new.first c.judge_body.new.first
    c.as_slice-clauses.ensures c.in_ok-modified.ensures.found c.in_ok-modified.ensures.modified c.in_body.ensures c.as_slice-body.ensures) c.judge_body.ensures
