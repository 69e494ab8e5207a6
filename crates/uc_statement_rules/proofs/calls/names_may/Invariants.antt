use Rattle.std.proofs.Common.{◌≡◌, drop}
use Rattle.std.specs.List.{list_all}
use Rattle.uc_statement_rules.specs.Judging.{name_may}
use Rattle.uc_statement_rules.proofs.calls.names_may.Given as goal

abbrev pub invariant-loop-name : goal.invariant-loop-name
invariant-loop-name l = list_all (λ i. name_may l.scope i) (drop l.name-index l.names) ≡ list_all (λ i. name_may l.scope i) l.names
