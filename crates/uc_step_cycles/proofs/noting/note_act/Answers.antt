use Rattle.std.proofs.Common.{ap, sym, ◌∙◌}
use Rattle.uc_rules.specs.Faults.{first_of}
use Rattle.uc_uses.proofs.Told.{told_nothing}
use Rattle.uc_step_cycles.specs.Noted.{noted_act}
use Rattle.uc_step_cycles.proofs.noting.note_act.Goals as goal

pub returns-in-Steps : goal.returns-in-Steps
returns-in-Steps c = told_nothing c.args.first.now ∙ ap (λ a. first_of c.args.first.now (noted_act c.args.names.now c.args.flags.now c.args.node a)) (sym c.in-Steps.is)
