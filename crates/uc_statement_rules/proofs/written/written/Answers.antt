use Rattle.std.proofs.Common.{ap, ◌∙◌}
use Rattle.uc_rules.specs.Statements.{written_from}
use Rattle.uc_statement_rules.proofs.written.written.Goals as goal

pub returns-in_ok-outcome-in-Some : goal.returns-in_ok-outcome-in-Some
returns-in_ok-outcome-in-Some c place =
    c.in_ok-outcome-in-Some.ensures c.args.scope.now place ∙ ap (written_from c.args.scope.now place c.args.name c.args.variable_fits c.args.local_fits) c.in-Some.ensures

pub returns-in_ok-outcome-in-None : goal.returns-in_ok-outcome-in-None
returns-in_ok-outcome-in-None c place =
    c.in_ok-outcome-in-None.ensures place ∙ ap (written_from c.args.scope.now place c.args.name c.args.variable_fits c.args.local_fits) c.in-None.ensures
