use Rattle.std.proofs.Common.{ap, ◌∙◌}
use Rattle.std.specs.Prelude.{◌||◌, not}
use Rattle.uc_rules.specs.Expressions.{bound_named}
use Rattle.uc_rules.specs.Statements.{written_from}
use Rattle.uc_statement_rules.proofs.written.havoc_outcome.Goals as goal

pub returns : goal.returns
returns c place =
    c.in_ok-outcome.ensures place
    ∙ ap (λ b. written_from c.args.scope.now place c.args.name b (not c.args.is_primed) (bound_named c.args.scope.now c.args.name))
    (c.havoc_fits-variable_fits.ensures ∙ ap (λ b. b || not c.args.is_primed) c.is_in_next.ensures)
