use Rattle.std.proofs.Common.{ap, ◌∙◌, arith}
use Rattle.std.specs.Prelude.{nat_lt}
use Rattle.uc_lookup.specs.Parts.{system_in}
use Rattle.uc_uses.proofs.InstanceCountsWalks.{instances_are}
use Rattle.uc_uses.proofs.limits.has_many_instances.Goals as goal

pub returns : goal.returns
returns c = c.passes.ensures ∙ ap (nat_lt 65536) (instances_are _ (system_in c.args.system.now) (omega arith))
