use Rattle.std.proofs.Common.{◌≡◌, take}
use Rattle.std.specs.List.{flat_map}
use Rattle.uc_rules.specs.Statements.{modifies_in}
use Rattle.uc_declaration_rules.proofs.modifying.listed_names.Given as goal

abbrev pub invariant-loop-clause : goal.invariant-loop-clause
invariant-loop-clause l = l.listed ≡ flat_map modifies_in (take l.clause-index l.clauses)
