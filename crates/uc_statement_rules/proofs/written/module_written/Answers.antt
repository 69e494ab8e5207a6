use Rattle.std.proofs.Common.{ap, ◌∙◌}
use Rattle.uc_rules.specs.Expressions.{Wrong}
use Rattle.uc_rules.specs.Faults.{broken}
use Rattle.uc_rules.specs.Statements.{value_written}
use Rattle.uc_statement_rules.proofs.written.module_written.Goals as goal

pub returns-in-None : goal.returns-in-None
returns-in-None c place =
    ap (λ r. Wrong (broken r place)) c.unwritten.ensures ∙ ap (value_written c.args.scope.now place c.args.name c.args.fits) c.in-None.ensures

pub returns-in_ok-outcome-in-Some : goal.returns-in_ok-outcome-in-Some
returns-in_ok-outcome-in-Some c place = c.in_ok-outcome-in-Some.ensures place ∙ ap (value_written c.args.scope.now place c.args.name c.args.fits) c.in-Some.ensures
