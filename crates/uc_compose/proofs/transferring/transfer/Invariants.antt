use Rattle.std.proofs.Common.{nat_eq}
use Rattle.indexmap.specs.IndexMap.{get}
use Rattle.uc_compose.proofs.Copied.{Transferred}
use Rattle.uc_compose.proofs.transferring.transfer.Given as goal

abbrev pub invariant-walk : goal.invariant-walk
invariant-walk l = Transferred l.shared l.by l.from l.initial.into l.into l.terms (get nat_eq l.copies) l.place

abbrev pub decreases-walk : goal.decreases-walk
decreases-walk l = l.place
