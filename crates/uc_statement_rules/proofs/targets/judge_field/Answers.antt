use Rattle.uc_statement_rules.proofs.Parts.{field_of_part}
use Rattle.uc_statement_rules.proofs.targets.judge_field.Goals as goal

pub returns : goal.returns
returns c = field_of_part c.args.before.now c.args.place c.args.name.name c.in_ok-outcome.outcome c.args.first.now c.settle.new.first c.settle.result c.in_ok-outcome.ensures c.settle.ensures.ty c.settle.ensures.faults
