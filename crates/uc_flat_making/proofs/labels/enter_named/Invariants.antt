use Rattle.std.specs.Prelude.{nat_eq}
use Rattle.indexmap.specs.IndexMap.{get}
use Rattle.uc_type_reader.specs.Reading.{label_meant, label_in_named}
use Rattle.uc_flat_making.proofs.Entered.{EnteredUpTo}
use Rattle.uc_flat_making.proofs.labels.enter_named.Given as goal

abbrev pub invariant-loop-owner : goal.invariant-loop-owner
invariant-loop-owner l = EnteredUpTo label_meant (label_in_named l.tables) l.modules (get nat_eq l.initial.labels.things) l.owner-index (get nat_eq l.labels.things)
