use Rattle.std.proofs.Common.{◌≡◌, drop}
use Rattle.uc_print_laws.specs.Printed.{joined, behind}
use Rattle.uc_print_laws.specs.Declarations.{parameter_words}
use Rattle.uc_grammar.specs.declared.word.Kind.TheVariants.{Comma}
use Rattle.uc_print_laws.specs.Text.{written}
use Rattle.uc_print_laws.proofs.types.+print_types.Given as goal

abbrev pub invariant-put_parameters-rest : goal.invariant-put_parameters-rest
invariant-put_parameters-rest l = written l.names l.page (behind Comma parameter_words (drop l.one-index l.rest)).words ≡ written l.names l.fn.page (joined Comma parameter_words l.parameters).words
