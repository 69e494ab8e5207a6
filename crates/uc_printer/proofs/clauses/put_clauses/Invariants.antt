use Rattle.std.proofs.Common.{◌≡◌, drop}
use Rattle.uc_print_laws.specs.Printed.{each}
use Rattle.uc_print_laws.specs.Declarations.{clause_words}
use Rattle.uc_print_laws.specs.Text.{written}
use Rattle.uc_printer.proofs.clauses.put_clauses.Given as goal

abbrev pub invariant-clauses : goal.invariant-clauses
invariant-clauses l = written l.names l.page (each clause_words (drop l.clause-index l.clauses)).words ≡ written l.names l.fn.page (each clause_words l.clauses).words
