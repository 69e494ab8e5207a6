use Rattle.uc_read_names.specs.Reading.{standing_meant}
use Rattle.uc_expression_rules.proofs.Turns.{field_there}
use Rattle.uc_expression_rules.proofs.selections.select_field.Goals as goal

pub returns-in_default : goal.returns-in_default
returns-in_default c =
    let ms = c.args.scope.now.system.modules in
    field_there c.args.scope.now c.args.begin c.args.place ms c.args.before c.args.name (standing_meant ms c.read-read.result) c.field_of.result c.in_default.not-Inside c.read-read.ensures (c.field_of.ensures ms)
