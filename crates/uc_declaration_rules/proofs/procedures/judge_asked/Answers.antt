use Rattle.uc_declaration_rules.proofs.Joined.{procedure_of_known}
use Rattle.uc_declaration_rules.proofs.procedures.judge_asked.Goals as goal

pub returns : goal.returns
returns c =
    λ before asks. procedure_of_known c.args.home.now c.args.asked.now c.in_ok-known.known c.args.procedure.now before c.args.first.now c.known_scope.new.first c.judge_known.new.first
    asks c.in_ok-known.ensures c.in_ok-judge_known.ensures
