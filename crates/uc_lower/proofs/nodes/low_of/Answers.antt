use Rattle.std.proofs.Common.{ap, ◌∙◌}
use Rattle.std.specs.Prelude.{slice_get}
use Rattle.std.specs.Option.{option_copied}
use Rattle.uc_lower.proofs.Slices.{low_missing}
use Rattle.uc_lower.proofs.nodes.low_of.Goals as goal

pub returns-in-None : goal.returns-in-None
returns-in-None c = low_missing c.args.lowered.now c.args.t _ (c.at.ensures ∙ ap (slice_get c.args.lowered.now) c.index.ensures) (ap option_copied c.in-None.is)
