use Rattle.std.proofs.Common.{◌≡◌, drop}
use Rattle.uc_statement_rules.specs.Judging.{clauses_may}
use Rattle.uc_statement_rules.proofs.calls.modifies_no_more.Given as goal

abbrev pub invariant-loop-clause : goal.invariant-loop-clause
invariant-loop-clause l = clauses_may l.scope (drop l.clause-index l.clauses) ≡ clauses_may l.scope l.clauses
