use Rattle.std.proofs.Common.{◌≡◌, drop}
use Rattle.uc_meaning.specs.Lookup.{module_from, module_at}
use Rattle.uc_lookup.specs.Parts.{system_in}
use Rattle.uc_lookup.proofs.system.SystemRef.module_at.Given as goal

abbrev pub invariant-loop-name : goal.invariant-loop-name
invariant-loop-name l =
    module_from (system_in l.self) l.here (drop l.name-index l.path) ≡ module_at (system_in l.self) l.path
