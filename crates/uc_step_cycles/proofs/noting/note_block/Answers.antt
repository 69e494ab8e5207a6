use Rattle.std.proofs.Common.{[], ap, sym, ◌∙◌}
use Rattle.std.specs.Prelude.{if◌then◌else◌}
use Rattle.std.specs.List.{flat_map}
use Rattle.uc_rules.specs.Faults.{first_of}
use Rattle.uc_uses.proofs.Told.{told_nothing}
use Rattle.uc_step_cycles.specs.Noted.{noted_act}
use Rattle.uc_step_cycles.proofs.noting.note_block.Goals as goal

pub returns-else-block : goal.returns-else-block
returns-else-block c =
    told_nothing c.args.first.now ∙ ap (λ b. first_of c.args.first.now (if b then flat_map (noted_act c.args.names.now c.args.flags.now c.args.node) c.args.block.now.acts.acts else [])) (sym c.if-block.false)
