use Rattle.std.proofs.Common.{◌≡◌, drop}
use Rattle.uc_meaning.specs.Lookup.{first_some}
use Rattle.uc_type_reader.specs.Reading.{label_imported}
use Rattle.uc_type_reader.proofs.labels.first_imported.Given as goal

abbrev pub invariant-loop-decl : goal.invariant-loop-decl
invariant-loop-decl l = first_some (label_imported l.tables l.name) (drop l.decl-index l.decls) ≡ first_some (label_imported l.tables l.name) l.decls
