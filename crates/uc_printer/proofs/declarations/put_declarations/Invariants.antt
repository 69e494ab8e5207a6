use Rattle.std.proofs.Common.{◌≡◌, drop}
use Rattle.uc_print_laws.specs.Printed.{each}
use Rattle.uc_print_laws.specs.Declarations.{decl_words}
use Rattle.uc_print_laws.specs.Text.{written}
use Rattle.uc_printer.proofs.declarations.put_declarations.Given as goal

abbrev pub invariant-declarations : goal.invariant-declarations
invariant-declarations l = written l.names l.page (each decl_words (drop l.declaration-index l.declarations)).words ≡ written l.names l.fn.page (each decl_words l.declarations).words
