use Rattle.uc_syntax.proofs.Added.{AddedUpTo}
use Rattle.uc_names.specs.Senses.{entries_meant}
use Rattle.uc_names.specs.Entries.{labels_of_enum}
use Rattle.uc_names.proofs.labels.add_enums_at.Given as goal

abbrev pub invariant-loop-written : goal.invariant-loop-written
invariant-loop-written l =
    AddedUpTo (labels_of_enum l.design l.at) l.enums (entries_meant l.design.modules l.initial.entries) l.written-index (entries_meant l.design.modules l.entries)
