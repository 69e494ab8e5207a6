use Rattle.std.proofs.Common.{◌≡◌, drop}
use Rattle.uc_meaning.specs.Lookup.{first_some}
use Rattle.uc_type_reader.specs.Reading.{label_at}
use Rattle.uc_type_reader.proofs.labels.first_label.Given as goal

abbrev pub invariant-loop-written : goal.invariant-loop-written
invariant-loop-written l = first_some (label_at l.tables l.name) (drop l.written-index l.enums) ≡ first_some (label_at l.tables l.name) l.enums
