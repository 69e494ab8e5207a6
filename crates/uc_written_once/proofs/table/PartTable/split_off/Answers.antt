use Rattle.std.proofs.Common.{subst, sym}
use Rattle.uc_written_once.specs.Places.{Known}
use Rattle.uc_written_once.proofs.KnownPlaces.{known_front}
use Rattle.uc_written_once.proofs.table.PartTable.split_off.Goals as goal

pub invariant_of-self-2 : goal.invariant_of-self-2
invariant_of-self-2 c = (
  subst (Known _ c.self.inside.wholes) (sym c.in_ok-tail.ensures.items) (known_front _ c.self.inside.wholes _ c.args.start c.self.invariant.0),
  subst (Known _ c.self.inside.fronts) (sym c.in_ok-tail.ensures.items) (known_front _ c.self.inside.fronts _ c.args.start c.self.invariant.1),
)
