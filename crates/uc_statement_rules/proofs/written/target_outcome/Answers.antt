use Rattle.std.proofs.Common.{ap, ◌∙◌}
use Rattle.std.specs.Prelude.{◌&&◌, not, if◌then◌else◌}
use Rattle.uc_rules.specs.Expressions.{bound_named}
use Rattle.uc_rules.specs.Statements.{written_from}
use Rattle.uc_statement_rules.proofs.written.target_outcome.Goals as goal

pub returns : goal.returns
returns c place =
    c.in_ok-outcome.ensures place
    ∙ (λ k. written_from c.args.scope.now place c.args.name
    ((c.target_fits-variable_fits.ensures ∙ ap (λ b. if b then c.args.is_primed else not c.args.is_primed) c.is_in_next-in_next.ensures) k)
    ((c.local_fits-local_fits.ensures ∙ ap (λ b. not b && not c.args.is_primed) c.is_in_next-in_next.ensures) k) (bound_named c.args.scope.now c.args.name))
