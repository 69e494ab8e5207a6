use Rattle.uc_print_laws.proofs.Parsed.{printed_back}
use Rattle.uc_print_laws.proofs.law.read_is_printed_back.Goals as goal

pub returns : goal.returns
returns c = printed_back c.text_is_read_back.ensures c.parsed_is_shaped.ensures c.depths_bound_levels.ensures c.names_are_counted.ensures
