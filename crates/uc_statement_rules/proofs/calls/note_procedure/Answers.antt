use Rattle.std.proofs.Common.{ap, ◌∙◌}
use Rattle.uc_rules.specs.Faults.{first_of}
use Rattle.uc_rules.specs.Statements.{fit_faults}
use Rattle.uc_rules.specs.Types.{parameter_types}
use Rattle.uc_statement_rules.specs.Judging.{clauses_may}
use Rattle.uc_statement_rules.proofs.Joined.{procedure_of_parts}
use Rattle.uc_statement_rules.proofs.calls.note_procedure.Goals as goal

pub returns : goal.returns
returns c =
    procedure_of_parts c.args.scope.now c.args.place c.args.written.now c.args.procedure.now c.args.given.now c.args.first.now c.note_unfit.new.first c.note_unfit-2.new.first c.note_where.new.first c.modifies_no_more-is_kept.result
    (c.in_ok-note_unfit.ensures ∙ ap (λ ps. first_of c.args.first.now (fit_faults c.args.place (parameter_types c.args.scope.now.system c.args.scope.now.home ps) c.args.given.now)) c.as_slice.ensures)
    (c.in_ok-note_unfit-2.ensures ∙ ap (λ ps. first_of c.note_unfit.new.first (fit_faults c.args.place (parameter_types c.args.scope.now.system c.args.scope.now.home ps) c.args.written.now)) c.as_slice-2.ensures)
    (c.modifies_no_more-is_kept.ensures ∙ ap (clauses_may c.args.scope.now) c.as_slice-3.ensures) c.note_where.ensures
