use Rattle.std.proofs.Common.{◌≡◌, take}
use Rattle.uc_rules.specs.Types.{parameter_types}
use Rattle.uc_read_names.proofs.scope.Scope.parameter_types.Given as goal

abbrev pub invariant-loop-parameter : goal.invariant-loop-parameter
invariant-loop-parameter l = l.types ≡ parameter_types l.self.system l.self.home (take l.parameter-index l.parameters)
