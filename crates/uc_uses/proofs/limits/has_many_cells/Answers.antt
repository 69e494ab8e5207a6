use Rattle.std.proofs.Common.{ap, ◌∙◌}
use Rattle.std.specs.Prelude.{nat_lt}
use Rattle.uc_lookup.specs.Parts.{system_in}
use Rattle.uc_uses.proofs.InstanceCountsWalks.{cells_are}
use Rattle.uc_uses.proofs.limits.has_many_cells.Goals as goal

pub returns : goal.returns
returns c = c.passes.ensures ∙ ap (nat_lt 65535) (cells_are (system_in c.args.system.now))
