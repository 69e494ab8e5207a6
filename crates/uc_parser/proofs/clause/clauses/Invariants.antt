use Rattle.std.proofs.Common.{◌≡◌, ◌∷◌, [], length}
use Rattle.uc_forms.specs.Counted.{turns, with_front}
use Rattle.uc_parser.specs.Parts.{clause_codes}
use Rattle.uc_grammar.specs.Syntax.{words, clause}
use Rattle.uc_parse_expressions.specs.Reading.{state, form}
use Rattle.uc_parser.proofs.clause.clauses.Given as goal

abbrev pub invariant-turns : goal.invariant-turns
invariant-turns l = with_front l.found (turns words clause_codes (form l.levels clause) (state l.reader)) ≡ turns words clause_codes (form l.levels clause) (state l.fn.reader)

abbrev pub decreases-turns : goal.decreases-turns
decreases-turns l = length l.reader.rest.now
