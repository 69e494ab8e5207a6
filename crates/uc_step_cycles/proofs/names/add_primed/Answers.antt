use Rattle.std.proofs.Common.{ap, ◌∙◌, ◌++◌}
use Rattle.uc_step_cycles.proofs.Named.{expression_found}
use Rattle.uc_step_cycles.proofs.names.add_primed.Goals as goal

pub returns : goal.returns
returns c =
    c.in_ok-add_primed_of.ensures
    ∙ ap (λ ns. c.args.names.now ++ ns) (expression_found c.args.expression.now _ _ _ c.new-found.ensures c.in_ok-add_mentions.ensures c.as_slice.ensures)
