use Rattle.uc_lookup.specs.Parts.{system_in}
use Rattle.uc_sizes.proofs.Spending.{memory_out, spends_none, spends_stop, spends_two, stop_out}
use Rattle.uc_sizes.proofs.Expanding.{no_next}
use Rattle.uc_sizes.proofs.expansion.spend_main_next.Goals as goal

pub returns-in-None : goal.returns-in-None
returns-in-None c = spends_none _ _ (no_next (system_in c.args.system.now) c.in-None.ensures)
