use Rattle.uc_statement_rules.proofs.Noted.{NotedUpTo}
use Rattle.uc_declaration_rules.specs.Procedures.{asked_faults}
use Rattle.uc_declaration_rules.proofs.procedures.judge_clauses.Given as goal

abbrev pub invariant-loop-clause : goal.invariant-loop-clause
invariant-loop-clause l = NotedUpTo (asked_faults l.asked l.known) l.clauses l.fn.first l.clause-index l.first
