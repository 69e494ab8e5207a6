use Rattle.std.proofs.Common.{ap, sym, ◌∙◌}
use Rattle.std.specs.Option.{option_copied}
use Rattle.uc_ops.specs.Meaning.{part}
use Rattle.uc_obligations.proofs.Read.{part_none}
use Rattle.uc_obligations.proofs.reading.value_of.Goals as goal

pub returns-in-None : goal.returns-in-None
returns-in-None c = sym (part_none c.args.values.now _ (sym c.at.ensures ∙ ap option_copied c.in-None.is)) ∙ ap (part c.args.values.now) c.index.ensures
