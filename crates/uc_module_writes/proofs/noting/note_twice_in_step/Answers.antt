use Rattle.std.proofs.Common.{ap, ◌∙◌}
use Rattle.uc_module_writes.specs.Places.{place_named}
use Rattle.uc_module_writes.proofs.BoundNames.{binds_as}
use Rattle.uc_module_writes.proofs.noting.note_twice_in_step.Goals as goal

pub returns : goal.returns
returns c =
    λ ends.
    c.in_ok-note_in_order.ensures ends (binds_as c.args.design.now _ _ (ap (λ s. s.modules) c.system.ensures) c.in_ok-names.ensures) (λ x. c.in_ok-places.ensures x ∙ ap (λ s. place_named s.modules x) c.system.ensures)
