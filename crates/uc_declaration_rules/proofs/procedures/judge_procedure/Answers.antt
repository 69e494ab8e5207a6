use Rattle.uc_declaration_rules.proofs.Forms.{on_ok}
use Rattle.uc_declaration_rules.proofs.procedures.judge_procedure.Goals as goal

pub returns : goal.returns
returns c = on_ok c.judge_asked.result (λ found. found c.args.first.now c.in_ok-asked.ensures) c.judge_asked.ensures
