use Rattle.std.proofs.Common.{◌≡◌, take, map, Some, nat_eq}
use Rattle.indexmap.specs.IndexMap.{get}
use Rattle.uc_compose.proofs.transferring.copies_of.Given as goal

abbrev pub invariant-loop-term : goal.invariant-loop-term
invariant-loop-term l = map Some l.all ≡ map (get nat_eq l.copies) (take l.term-index l.terms)
