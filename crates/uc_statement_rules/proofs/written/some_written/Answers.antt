use Rattle.std.proofs.Common.{Some, ap, sym, ◌∙◌}
use Rattle.uc_names.specs.Senses.{value_meant}
use Rattle.uc_rules.specs.Statements.{value_written}
use Rattle.uc_statement_rules.proofs.written.some_written.Goals as goal

pub returns-in-Label : goal.returns-in-Label
returns-in-Label c place = ap (λ v. value_written c.args.scope.now place c.args.name c.args.fits (Some (value_meant v))) (sym c.in-Label.is)

pub returns-in_ok-outcome-in-Variable : goal.returns-in_ok-outcome-in-Variable
returns-in_ok-outcome-in-Variable c place =
    c.in_ok-outcome-in-Variable.ensures place ∙ ap (λ v. value_written c.args.scope.now place c.args.name c.args.fits (Some (value_meant v))) (sym c.in-Variable.is)
