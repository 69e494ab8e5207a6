use Rattle.std.proofs.Common.{◌≡◌, drop}
use Rattle.uc_print_laws.specs.Printed.{each}
use Rattle.uc_print_laws.specs.Statements.{part_words}
use Rattle.uc_print_laws.specs.Text.{written}
use Rattle.uc_printer.proofs.targets.put_parts.Given as goal

abbrev pub invariant-parts : goal.invariant-parts
invariant-parts l = written l.names l.page (each part_words (drop l.part-index l.parts)).words ≡ written l.names l.fn.page (each part_words l.parts).words
