use Rattle.std.proofs.Common.{ap, ◌∙◌}
use Rattle.uc_syntax.specs.declared.expression.Selection.TheVariants.{Element}
use Rattle.uc_rules.specs.Rows.{element_on, extract_on, update_on}
use Rattle.uc_read_names.specs.Reading.{standing_meant}
use Rattle.uc_expression_rules.specs.Judging.{on_value}
use Rattle.uc_expression_rules.proofs.Turns.{element_selected, extract_selected, selects_of, update_selected}
use Rattle.uc_expression_rules.proofs.selections.after_element.Goals as goal

pub returns : goal.returns
returns c i is =
    let ms = c.args.scope.now.system.modules in
    selects_of c.args.scope.now c.args.begin (standing_meant ms c.args.before) (standing_meant ms c.in_ok-selected.selected) (standing_meant ms c.note_standing.result) (Element c.args.place i) c.args.first.now c.note_standing.new.first
    (c.in_ok-selected.ensures ms ∙ ap (λ x. on_value c.args.place (λ t. element_on t x) (standing_meant ms c.read-read.result)) is
    ∙ ap (on_value c.args.place (λ t. element_on t (i c.args.scope.now).type)) c.read-read.ensures ∙ element_selected c.args.scope.now c.args.begin c.args.place (standing_meant ms c.args.before) i)
    (c.note_standing.ensures.told ms) (c.note_standing.ensures.faults ms)
