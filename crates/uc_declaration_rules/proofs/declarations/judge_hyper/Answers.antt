use Rattle.uc_declaration_rules.proofs.Forms.{hyper_of_parts}
use Rattle.uc_declaration_rules.proofs.declarations.judge_hyper.Goals as goal

pub returns : goal.returns
returns c =
    hyper_of_parts c.args.home.now.system c.args.home.now.home c.args.place c.args.count c.args.formula.now c.scope.result c.in_copies.result c.is_copy_count.result c.args.first.now c.note_where.new.first c.judge_formula.new.first
    c.is_copy_count.ensures c.note_where.ensures c.scope.ensures c.in_copies.ensures c.in_ok-judge_formula.ensures
