use Rattle.uc_obligations.proofs.KnownTerms.{known_even}
use Rattle.uc_flat_lines.proofs.law.is_even_where_known.Goals as goal

pub returns : goal.returns
returns c = known_even
