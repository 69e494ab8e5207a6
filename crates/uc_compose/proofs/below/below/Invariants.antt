use Rattle.uc_compose.proofs.Listing.{Walking, above}
use Rattle.uc_compose.proofs.below.below.Given as goal

abbrev pub invariant-walk : goal.invariant-walk
invariant-walk l = Walking l.terms l.roots l.listed l.waiting

abbrev pub decreases-walk : goal.decreases-walk
decreases-walk l = above l.waiting
