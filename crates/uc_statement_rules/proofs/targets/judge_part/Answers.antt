use Rattle.uc_statement_rules.proofs.Parts.{part_element, part_field}
use Rattle.uc_statement_rules.proofs.targets.judge_part.Goals as goal

pub returns-in_ok-ty-in-Field : goal.returns-in_ok-ty-in-Field
returns-in_ok-ty-in-Field c =
    part_field c.args.scope.now c.args.before.now c.in-Field.place c.in-Field.name c.args.part.now c.args.first.now c.judge_field.new.first c.in_ok-ty-in-Field.ty c.in-Field.is c.in_ok-ty-in-Field.ensures

pub returns-in_ok-ty-in-Element : goal.returns-in_ok-ty-in-Element
returns-in_ok-ty-in-Element c =
    part_element c.args.scope.now c.args.before.now c.in-Element.place c.in-Element.index c.args.part.now c.args.first.now c.judge_element.new.first c.in_ok-ty-in-Element.ty c.in-Element.is c.in_ok-ty-in-Element.ensures
