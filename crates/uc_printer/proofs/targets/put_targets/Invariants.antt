use Rattle.std.proofs.Common.{◌≡◌, drop}
use Rattle.uc_grammar.specs.declared.word.Kind.TheVariants.{Comma}
use Rattle.uc_print_laws.specs.Printed.{joined, behind}
use Rattle.uc_print_laws.specs.Statements.{target_words}
use Rattle.uc_print_laws.specs.Text.{written}
use Rattle.uc_printer.proofs.targets.put_targets.Given as goal

abbrev pub invariant-rest : goal.invariant-rest
invariant-rest l = written l.names l.page (behind Comma target_words (drop l.one-index l.rest)).words ≡ written l.names l.fn.page (joined Comma target_words l.targets).words
