use Rattle.uc_declared_types.proofs.Turns.{below_empty}
use Rattle.uc_declared_types.proofs.known.read_aliases_of.Goals as goal

pub returns : goal.returns
returns c = c.in_ok-read_declared.ensures (below_empty c.args.homes.now _ c.new-aliases.ensures)
