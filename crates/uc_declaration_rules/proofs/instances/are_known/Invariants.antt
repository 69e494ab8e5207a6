use Rattle.std.proofs.Common.{◌≡◌, drop}
use Rattle.uc_declaration_rules.specs.Judging.{are_known}
use Rattle.uc_declaration_rules.proofs.instances.are_known.Given as goal

abbrev pub invariant-loop-identifier : goal.invariant-loop-identifier
invariant-loop-identifier l = are_known l.known (drop l.identifier-index l.identifiers) ≡ are_known l.known l.identifiers
