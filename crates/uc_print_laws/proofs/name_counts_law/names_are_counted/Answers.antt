use Rattle.uc_print_laws.proofs.Modules.{names_counted}
use Rattle.uc_print_laws.proofs.name_counts_law.names_are_counted.Goals as goal

pub returns : goal.returns
returns c = names_counted
