use Rattle.uc_print_laws.proofs.Erased.{same_names}
use Rattle.uc_print_laws.proofs.name_counts_law.names_without_places.Goals as goal

pub returns : goal.returns
returns c = same_names
