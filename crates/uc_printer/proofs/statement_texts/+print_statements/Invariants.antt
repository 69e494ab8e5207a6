use Rattle.std.proofs.Common.{◌≡◌, true, drop}
use Rattle.uc_print_laws.specs.Printed.{each}
use Rattle.uc_print_laws.specs.Statements.{printed_stmt}
use Rattle.uc_print_laws.specs.Text.{written}
use Rattle.uc_printer.specs.PrintStatementsParts.{arms_words, guarded}
use Rattle.uc_printer.proofs.statement_texts.+print_statements.Given as goal

abbrev pub invariant-put_block-block : goal.invariant-put_block-block
invariant-put_block-block l = written l.names l.page (each printed_stmt (drop l.statement-index l.block)).words ≡ written l.names l.initial.page (each printed_stmt l.block).words

abbrev pub invariant-put_arms-arms : goal.invariant-put_arms-arms
invariant-put_arms-arms l = written l.names l.page (arms_words l.is_first (drop l.one-index l.arms)).words ≡ written l.names l.fn.page (arms_words true l.arms).words

abbrev pub invariant-put_arms-block : goal.invariant-put_arms-block
invariant-put_arms-block l = written l.names l.page (each printed_stmt (drop l.statement-index l.block)).words ≡ written l.names l.initial.page (each printed_stmt l.block).words

abbrev pub invariant-put_guarded-arms : goal.invariant-put_guarded-arms
invariant-put_guarded-arms l = written l.names l.page (each guarded (drop l.one-index l.arms)).words ≡ written l.names l.fn.page (each guarded l.arms).words

abbrev pub invariant-put_guarded-block : goal.invariant-put_guarded-block
invariant-put_guarded-block l = written l.names l.page (each printed_stmt (drop l.statement-index l.block)).words ≡ written l.names l.initial.page (each printed_stmt l.block).words
