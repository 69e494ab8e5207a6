use Rattle.std.proofs.Common.{ap}
use Rattle.std.specs.Option.{option_copied}
use Rattle.uc_lower.proofs.Slices.{part_missing}
use Rattle.uc_lower.proofs.nodes.low_part.Goals as goal

pub returns-in-None : goal.returns-in-None
returns-in-None c = part_missing c.args.lowered.now c.args.parts.now c.args.place _ c.at.ensures (ap option_copied c.in-None.is)
