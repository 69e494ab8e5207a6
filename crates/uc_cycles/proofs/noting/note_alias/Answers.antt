use Rattle.uc_rules.specs.Cycles.{alias_cycle_in}
use Rattle.uc_cycles.proofs.Steps.{no_alias_cycle}
use Rattle.uc_cycles.proofs.Told.{told_nothing}
use Rattle.uc_cycles.proofs.noting.note_alias.Goals as goal

pub returns-in_default : goal.returns-in_default
returns-in_default c = λ s m known is. told_nothing c.args.first.now (alias_cycle_in s m c.args.declaration.now) (no_alias_cycle s m c.args.declaration.now (λ place i t e. c.in_default.not-TypeAlias place i t e))
