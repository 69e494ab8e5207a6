use Rattle.std.proofs.Common.{◌∙◌}
use Rattle.uc_step_cycles.proofs.Named.{all_lent}
use Rattle.uc_step_cycles.proofs.names.primed_in_all.Goals as goal

pub returns : goal.returns
returns c = c.in_ok-names.ensures ∙ all_lent _ _ _ _ _ _ c.new-expressions.ensures c.in_ok-add_indices.ensures c.in_ok-add_all.ensures c.as_slice.ensures
