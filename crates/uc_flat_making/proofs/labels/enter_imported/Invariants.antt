use Rattle.std.specs.Prelude.{nat_eq}
use Rattle.indexmap.specs.IndexMap.{get}
use Rattle.uc_type_reader.specs.Reading.{label_meant, label_imported}
use Rattle.uc_flat_making.proofs.Entered.{EnteredUpTo}
use Rattle.uc_flat_making.proofs.labels.enter_imported.Given as goal

abbrev pub invariant-loop-decl : goal.invariant-loop-decl
invariant-loop-decl l = EnteredUpTo label_meant (label_imported l.tables) l.decls (get nat_eq l.initial.labels.things) l.decl-index (get nat_eq l.labels.things)
