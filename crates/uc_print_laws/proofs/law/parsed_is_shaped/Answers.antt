use Rattle.uc_print_laws.proofs.Parsed.{parsed_shaped}
use Rattle.uc_print_laws.proofs.law.parsed_is_shaped.Goals as goal

pub returns : goal.returns
returns c = parsed_shaped c.spelled_is_shaped.ensures
