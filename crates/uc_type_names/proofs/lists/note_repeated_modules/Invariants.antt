use Rattle.std.proofs.Common.{◌≡◌, map, take}
use Rattle.uc_rules.specs.Declarations.{module_identifier}
use Rattle.uc_type_names.proofs.lists.note_repeated_modules.Given as goal

abbrev pub invariant-loop-module : goal.invariant-loop-module
invariant-loop-module l = l.identifiers ≡ map module_identifier (take l.module-index l.modules)
