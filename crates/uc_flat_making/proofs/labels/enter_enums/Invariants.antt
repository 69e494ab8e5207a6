use Rattle.std.specs.Prelude.{nat_eq}
use Rattle.indexmap.specs.IndexMap.{get}
use Rattle.uc_type_reader.specs.Reading.{label_meant, label_at}
use Rattle.uc_flat_making.proofs.Entered.{EnteredUpTo}
use Rattle.uc_flat_making.proofs.labels.enter_enums.Given as goal

abbrev pub invariant-loop-written : goal.invariant-loop-written
invariant-loop-written l = EnteredUpTo label_meant (label_at l.tables) l.enums (get nat_eq l.initial.labels.things) l.written-index (get nat_eq l.labels.things)
