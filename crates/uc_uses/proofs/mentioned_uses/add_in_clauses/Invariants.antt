use Rattle.std.specs.List.{flat_map}
use Rattle.uc_syntax.proofs.Added.{AddedUpTo}
use Rattle.uc_order_rules.specs.Mentions.{mentions}
use Rattle.uc_order_rules.specs.Uses.{clause_expressions}
use Rattle.uc_uses.specs.Meant.{meant}
use Rattle.uc_uses.proofs.mentioned_uses.add_in_clauses.Given as goal

abbrev pub invariant-loop-clause : goal.invariant-loop-clause
invariant-loop-clause l = AddedUpTo (λ c. flat_map mentions (clause_expressions c)) l.clauses (meant l.fn.found) l.clause-index (meant l.found)
