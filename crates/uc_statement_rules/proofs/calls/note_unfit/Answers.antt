use Rattle.std.proofs.Common.{ap, ◌∙◌}
use Rattle.uc_rules.specs.Faults.{first_of}
use Rattle.uc_rules.specs.Statements.{fit_faults}
use Rattle.uc_statement_rules.proofs.calls.note_unfit.Goals as goal

pub returns : goal.returns
returns c = c.note_misfit.ensures ∙ ap (λ ts. first_of c.args.first.now (fit_faults c.args.place ts c.args.types.now)) (c.as_slice.ensures ∙ c.in_ok-asked.ensures)
