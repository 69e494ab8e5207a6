use Rattle.std.proofs.Common.{◌≡◌, drop}
use Rattle.uc_meaning.specs.Lookup.{first_some}
use Rattle.uc_meaning.specs.Types.{type_in}
use Rattle.uc_type_reader.proofs.homes.type_entry.Given as goal

abbrev pub invariant-loop-decl : goal.invariant-loop-decl
invariant-loop-decl l = first_some (type_in l.name) (drop l.decl-index l.decls) ≡ first_some (type_in l.name) l.decls
