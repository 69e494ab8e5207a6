use Rattle.std.proofs.Common.{ap}
use Rattle.std.specs.Option.{option_copied}
use Rattle.uc_written_once.proofs.effects.Effects.new.Goals as goal

pub returns-clause-procedures : goal.returns-clause-procedures
returns-clause-procedures c = λ f. ap option_copied (c.new-procedures.ensures f)
