use Rattle.std.proofs.Common.{◌≡◌, drop, map}
use Rattle.uc_print_laws.specs.Printed.{each, joined, behind}
use Rattle.uc_print_laws.specs.Expressions.{leveled, printed_expr, terms, sum_words}
use Rattle.uc_grammar.specs.declared.word.Kind.TheVariants.{Comma}
use Rattle.uc_print_laws.specs.Text.{written}
use Rattle.uc_printer.specs.PrintExpressionsParts.{operand, shown_branch, shown_selection}
use Rattle.uc_printer.proofs.expression_texts.+print_expressions.Given as goal

abbrev pub invariant-put_chain-rest : goal.invariant-put_chain-rest
invariant-put_chain-rest l = written l.names l.page (behind l.sign (operand l.below) (drop l.one-index l.rest)).words ≡ written l.names l.fn.page (joined l.sign (operand l.below) l.operands).words

abbrev pub invariant-put_expressions-rest : goal.invariant-put_expressions-rest
invariant-put_expressions-rest l = written l.names l.page (behind Comma printed_expr (drop l.one-index l.rest)).words ≡ written l.names l.fn.page (joined Comma printed_expr l.expressions).words

abbrev pub invariant-put_sum-rest : goal.invariant-put_sum-rest
invariant-put_sum-rest l = written l.names l.page (terms l.left (map leveled (drop l.one-index l.rest))).words ≡ written l.names l.fn.page (sum_words l.signs (map leveled l.operands)).words

abbrev pub invariant-put_branches-branches : goal.invariant-put_branches-branches
invariant-put_branches-branches l = written l.names l.page (each shown_branch (drop l.one-index l.branches)).words ≡ written l.names l.fn.page (each shown_branch l.branches).words

abbrev pub invariant-put_selections-selections : goal.invariant-put_selections-selections
invariant-put_selections-selections l = written l.names l.page (each shown_selection (drop l.one-index l.selections)).words ≡ written l.names l.fn.page (each shown_selection l.selections).words
