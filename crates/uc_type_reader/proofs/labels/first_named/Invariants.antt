use Rattle.std.proofs.Common.{◌≡◌, drop}
use Rattle.uc_meaning.specs.Lookup.{first_some}
use Rattle.uc_type_reader.specs.Reading.{label_in_named}
use Rattle.uc_type_reader.proofs.labels.first_named.Given as goal

abbrev pub invariant-loop-owner : goal.invariant-loop-owner
invariant-loop-owner l = first_some (label_in_named l.tables l.name) (drop l.owner-index l.modules) ≡ first_some (label_in_named l.tables l.name) l.modules
