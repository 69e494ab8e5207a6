use Rattle.std.proofs.Common.{subst, sym}
use Rattle.uc_written_once.specs.Places.{Known}
use Rattle.uc_written_once.proofs.KnownPlaces.{known_none}
use Rattle.uc_written_once.proofs.table.PartTable.new.Goals as goal

pub invariant_of-result : goal.invariant_of-result
invariant_of-result c = (
  subst (Known _ c.new-wholes.result) (sym c.new-parts.ensures.items) (known_none _ c.new-wholes.result),
  subst (Known _ c.new-fronts.result) (sym c.new-parts.ensures.items) (known_none _ c.new-fronts.result),
)
