use Rattle.std.proofs.Common.{ap, ◌∙◌}
use Rattle.uc_syntax.specs.declared.expression.Selection.TheVariants.{Field}
use Rattle.uc_rules.specs.Rows.{element_on, extract_on, update_on}
use Rattle.uc_read_names.specs.Reading.{standing_meant}
use Rattle.uc_expression_rules.specs.Judging.{on_value}
use Rattle.uc_expression_rules.proofs.Turns.{element_selected, extract_selected, selects_of, update_selected}
use Rattle.uc_expression_rules.proofs.selections.after_field.Goals as goal

pub returns : goal.returns
returns c =
    let ms = c.args.scope.now.system.modules in
    selects_of c.args.scope.now c.args.begin (standing_meant ms c.args.before) (standing_meant ms c.in_ok-selected.selected) (standing_meant ms c.note_standing.result) (Field c.args.place c.args.name) c.args.first.now c.note_standing.new.first
    (c.in_ok-selected.ensures)
    (c.note_standing.ensures.told ms) (c.note_standing.ensures.faults ms)
