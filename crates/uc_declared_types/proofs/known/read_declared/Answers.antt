use Rattle.uc_declared_types.proofs.Fixed.{covered}
use Rattle.uc_declared_types.proofs.known.read_declared.Goals as goal

pub returns : goal.returns
returns c =
    λ below h. c.in_ok-read_all.ensures (c.in_ok-read_aliases.ensures.below below) (covered c.args.homes.now c.read_aliases.new.aliases c.args.count c.in_ok-listed.listed c.in_ok-listed.ensures h)
