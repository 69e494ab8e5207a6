use Rattle.std.specs.Prelude.{nat_eq}
use Rattle.indexmap.specs.IndexMap.{get}
use Rattle.uc_flat_making.proofs.Entered.{LabelledUpTo}
use Rattle.uc_flat_making.proofs.labels.enter_labels.Given as goal

abbrev pub invariant-loop-place : goal.invariant-loop-place
invariant-loop-place l = LabelledUpTo l.enum_number l.names (get nat_eq l.initial.labels.things) l.place (get nat_eq l.labels.things)
