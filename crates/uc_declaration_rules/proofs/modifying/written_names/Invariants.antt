use Rattle.std.proofs.Common.{◌≡◌, ◌++◌, drop}
use Rattle.std.specs.List.{filter_map}
use Rattle.uc_statement_rules.specs.Judging.{name_written}
use Rattle.uc_declaration_rules.proofs.modifying.written_names.Given as goal

abbrev pub invariant-loop-identifier : goal.invariant-loop-identifier
invariant-loop-identifier l = l.names ++ filter_map (name_written l.scope) (drop l.identifier-index l.listed) ≡ filter_map (name_written l.scope) l.listed
