use Rattle.std.proofs.Common.{ap, ◌∙◌}
use Rattle.uc_syntax.specs.declared.expression.Selection.TheVariants.{Extract}
use Rattle.uc_rules.specs.Rows.{element_on, extract_on, update_on}
use Rattle.uc_read_names.specs.Reading.{standing_meant}
use Rattle.uc_expression_rules.specs.Judging.{on_value}
use Rattle.uc_expression_rules.proofs.Turns.{element_selected, extract_selected, selects_of, update_selected}
use Rattle.uc_expression_rules.proofs.selections.after_extract.Goals as goal

pub returns : goal.returns
returns c =
    let ms = c.args.scope.now.system.modules in
    selects_of c.args.scope.now c.args.begin (standing_meant ms c.args.before) (standing_meant ms c.select_extract-selected.result) (standing_meant ms c.note_standing.result) (Extract c.args.place c.args.high c.args.low) c.args.first.now c.note_standing.new.first
    (c.select_extract-selected.ensures ms ∙ ap (on_value c.args.place (λ t. extract_on t c.args.high c.args.low)) c.read-read.ensures
    ∙ extract_selected c.args.scope.now c.args.begin c.args.place (standing_meant ms c.args.before) c.args.high c.args.low)
    (c.note_standing.ensures.told ms) (c.note_standing.ensures.faults ms)
