use Rattle.std.proofs.Common.{◌≡◌, drop}
use Rattle.uc_meaning.specs.Lookup.{first_some}
use Rattle.uc_lookup.specs.Parts.{instance_named}
use Rattle.uc_lookup.proofs.instances.first_instance.Given as goal

abbrev pub invariant-loop-decl : goal.invariant-loop-decl
invariant-loop-decl l = first_some (instance_named l.name) (drop l.decl-index l.decls) ≡ first_some (instance_named l.name) l.decls
