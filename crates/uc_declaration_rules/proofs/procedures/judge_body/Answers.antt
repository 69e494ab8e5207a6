use Rattle.uc_declaration_rules.proofs.Forms.{on_ok}
use Rattle.uc_declaration_rules.proofs.procedures.judge_body.Goals as goal

pub returns : goal.returns
returns c = on_ok c.judge_block.result (λ found. found.noted) c.judge_block.ensures
