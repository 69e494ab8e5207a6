use Rattle.uc_order.proofs.Noting.{design_noted}
use Rattle.uc_order.proofs.ordering.first_of_names.Goals as goal

pub returns : goal.returns
returns c =
    λ ends there. design_noted c.args.names.now c.note_use_cycles.new.first c.note_sizes.new.first c.note_steps.new.first
    (c.in_ok-note_use_cycles.ensures ends)
    (c.in_ok-note_sizes.ensures ends (c.in_ok-note_use_cycles.ensures ends))
    (c.in_ok-note_steps.ensures ends there)
