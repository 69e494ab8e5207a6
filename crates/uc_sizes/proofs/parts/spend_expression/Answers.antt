use Rattle.std.proofs.Common.{ap}
use Rattle.std.specs.Option.{option_copied}
use Rattle.uc_meaning.specs.Cells.{as_list}
use Rattle.uc_lookup.specs.Parts.{system_in}
use Rattle.uc_sizes.proofs.Spending.{memory_out, spends_none, spends_stop, spends_two, stop_out}
use Rattle.uc_sizes.specs.Expanding.{expression_sizes}
use Rattle.uc_sizes.proofs.parts.spend_expression.Goals as goal

pub returns-in-None : goal.returns-in-None
returns-in-None c = spends_none _ _ (ap (λ o. expression_sizes (system_in c.args.system.now) c.args.path.now (as_list (option_copied o))) c.in-None.is)
