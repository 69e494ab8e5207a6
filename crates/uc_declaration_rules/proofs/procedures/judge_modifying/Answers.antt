use Rattle.uc_declaration_rules.proofs.Joined.{clauses_of_parts}
use Rattle.uc_declaration_rules.proofs.procedures.judge_modifying.Goals as goal

pub returns-clause-found : goal.returns-clause-found
returns-clause-found c =
    clauses_of_parts c.args.asked.now c.args.known.now c.args.clauses.now c.in_ok-listed.listed c.as_slice.result.now c.args.first.now c.note_repeated_names.new.first c.judge_clauses.new.first
    c.in_ok-listed.ensures c.as_slice.ensures c.in_ok-note_repeated_names.ensures c.in_ok-judge_clauses.ensures
