use Rattle.std.proofs.Common.{ap, sym, ◌∙◌}
use Rattle.uc_rules.specs.Faults.{first_of}
use Rattle.uc_rules.specs.Statements.{written_type_faults}
use Rattle.uc_statement_rules.proofs.Noted.{noted_none}
use Rattle.uc_statement_rules.proofs.ranges.note_written_type.Goals as goal

pub returns-in-None : goal.returns-in-None
returns-in-None c = noted_none c.args.first.now ∙ ap (λ w. first_of c.args.first.now (written_type_faults c.args.scope.now w)) (sym c.in-None.is)
