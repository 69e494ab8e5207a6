use Rattle.uc_print_laws.proofs.Nested.{modules_kept}
use Rattle.uc_print_laws.proofs.shaped_law.spelled_is_shaped.Goals as goal

pub returns : goal.returns
returns c = modules_kept
