use Rattle.std.proofs.Common.{ap, ◌∙◌}
use Rattle.std.specs.List.{flat_map}
use Rattle.uc_meaning.specs.Lookup.{System}
use Rattle.uc_rules.specs.Faults.{first_of}
use Rattle.uc_statement_rules.proofs.Noted.{on_ok}
use Rattle.uc_order.proofs.Noting.{own_twice, steps_noted}
use Rattle.uc_order.proofs.steps.note_steps.Goals as goal

pub returns : goal.returns
returns c =
    on_ok c.note_cyclic_steps.result
    (λ noted ends there. steps_noted c.args.names.now c.args.first.now c.note_twice_in_step.new.first c.note_each.new.first c.note_cyclic_steps.new.first
    (c.in_ok-note_twice_in_step.ensures ends.ends)
    (c.in_ok-note_each.ensures ∙ ap (λ (s : System). first_of c.note_twice_in_step.new.first (flat_map own_twice s.modules)) c.system-system.ensures)
    (noted ends there))
    c.note_cyclic_steps.ensures
