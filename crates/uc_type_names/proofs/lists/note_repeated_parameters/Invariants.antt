use Rattle.std.proofs.Common.{◌≡◌, take}
use Rattle.uc_rules.specs.Declarations.{identifiers_of}
use Rattle.uc_type_names.proofs.lists.note_repeated_parameters.Given as goal

abbrev pub invariant-loop-parameter : goal.invariant-loop-parameter
invariant-loop-parameter l = l.identifiers ≡ identifiers_of (take l.parameter-index l.parameters)
