use Rattle.std.proofs.Common.{map}
use Rattle.uc_lexer.specs.declared.place.Place.{Place}
use Rattle.uc_meaning.specs.Code.{modifies_in}
use Rattle.uc_order_rules.specs.Writes.{part_of_name}
use Rattle.uc_module_writes.specs.Found.{single}
use Rattle.uc_module_writes.proofs.Going.{OnFrom}
use Rattle.uc_module_writes.proofs.leaves.write_clauses.Given as goal

abbrev pub invariant-loop-clause : goal.invariant-loop-clause
invariant-loop-clause l = (place : Place) → OnFrom l.names (λ c meets. map (λ x. single place (part_of_name x) meets) (modifies_in c)) l.clauses l.fn.all l.clause-index l.all
