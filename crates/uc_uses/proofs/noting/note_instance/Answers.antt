use Rattle.std.proofs.Common.{ap, sym, ◌∙◌}
use Rattle.uc_rules.specs.Faults.{first_of}
use Rattle.uc_uses.specs.Noted.{noted_bindings}
use Rattle.uc_uses.proofs.Told.{told_nothing}
use Rattle.uc_uses.proofs.noting.note_instance.Goals as goal

pub returns-in-None : goal.returns-in-None
returns-in-None c = told_nothing c.args.first.now ∙ ap (λ o. first_of c.args.first.now (noted_bindings c.args.root.now.table c.args.flags.now o c.args.bindings.now)) (sym c.in-None.is)
