use Rattle.std.proofs.Common.{◌≡◌, drop}
use Rattle.uc_meaning.specs.Lookup.{first_some}
use Rattle.uc_lookup.specs.Parts.{system_in}
use Rattle.uc_type_reader.specs.Reading.{imported_home}
use Rattle.uc_type_reader.proofs.homes.first_import.Given as goal

abbrev pub invariant-loop-decl : goal.invariant-loop-decl
invariant-loop-decl l = first_some (imported_home (system_in l.system) l.name) (drop l.decl-index l.decls) ≡ first_some (imported_home (system_in l.system) l.name) l.decls
