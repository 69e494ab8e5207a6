use Rattle.std.proofs.Common.{ap, ◌∙◌}
use Rattle.uc_syntax.specs.declared.expression.Selection.TheVariants.{Update}
use Rattle.uc_rules.specs.Rows.{element_on, extract_on, update_on}
use Rattle.uc_read_names.specs.Reading.{standing_meant}
use Rattle.uc_expression_rules.specs.Judging.{on_value}
use Rattle.uc_expression_rules.proofs.Turns.{element_selected, extract_selected, selects_of, update_selected}
use Rattle.uc_expression_rules.proofs.selections.after_update.Goals as goal

pub returns : goal.returns
returns c i v is there =
    let ms = c.args.scope.now.system.modules in
    selects_of c.args.scope.now c.args.begin (standing_meant ms c.args.before) (standing_meant ms c.in_ok-selected.selected) (standing_meant ms c.note_standing.result) (Update c.args.place i v) c.args.first.now c.note_standing.new.first
    (c.in_ok-selected.ensures ms ∙ ap (λ x. on_value c.args.place (λ t. update_on t x c.args.value) (standing_meant ms c.read-read.result)) is
    ∙ ap (λ x. on_value c.args.place (λ t. update_on t (i c.args.scope.now).type x) (standing_meant ms c.read-read.result)) there
    ∙ ap (on_value c.args.place (λ t. update_on t (i c.args.scope.now).type (v c.args.scope.now).type)) c.read-read.ensures ∙ update_selected c.args.scope.now c.args.begin c.args.place (standing_meant ms c.args.before) i v)
    (c.note_standing.ensures.told ms) (c.note_standing.ensures.faults ms)
