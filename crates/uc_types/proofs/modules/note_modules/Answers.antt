use Rattle.std.proofs.Common.{subst}
use Rattle.uc_meaning.specs.Lookup.{System}
use Rattle.uc_cycles.specs.Numbers.{KnowsCycles}
use Rattle.uc_types.proofs.modules.note_modules.Goals as goal

pub note_each-noted-requires-clause-cycles : goal.note_each-noted-requires-clause-cycles
note_each-noted-requires-clause-cycles c = subst (λ (s : System). KnowsCycles s c.in_ok-cycles.cycles) c.homes.ensures c.in_ok-cycles.ensures
