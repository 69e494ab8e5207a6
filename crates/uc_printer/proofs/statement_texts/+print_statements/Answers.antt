use Rattle.std.proofs.Common.{◌≡◌, sym, ap, ◌∙◌}
use Rattle.uc_grammar.specs.declared.word.Kind.TheVariants.{LeftBrace, RightBrace}
use Rattle.uc_print_laws.specs.Printed.{each}
use Rattle.uc_print_laws.specs.Statements.{printed_stmt}
use Rattle.uc_print_laws.specs.Text.{kind_text, with_word, written}
use Rattle.uc_print_laws.proofs.Written.{each_more, each_end}
use Rattle.uc_printer.specs.PrintStatementsParts.{guarded, opened}
use Rattle.uc_printer.proofs.StatementWords.{arm_text, arms_end, arms_more, code_text, guarded_text}
use Rattle.uc_printer.proofs.statement_texts.+print_statements.Goals as goal

pub put_block-block-preserved : goal.put_block-block-preserved
put_block-block-preserved t c = each_more c.args.names.now printed_stmt c.block.statement-index c.args.block.now c.statement-item.result c.block.page c.put_statement.new.page _ c.block-test.true c.statement-item.is c.block.invariant c.in_ok-put_statement.ensures

pub put_block-returns : goal.put_block-returns
put_block-returns t c =
    let names = c.args.names.now in
    let last : c.block.page ≡ written names (with_word c.args.page.now (kind_text LeftBrace)) (each printed_stmt c.args.block.now).words = each_end names printed_stmt c.block.statement-index c.args.block.now c.block.page _ c.block-test.false c.block.invariant ∙ ap (λ z. written names z (each printed_stmt c.args.block.now).words) c.in_ok-put_sign.ensures in
    c.in_ok-put_sign-2.ensures ∙ ap (λ z. with_word z (kind_text RightBrace)) last ∙ sym (code_text names c.args.page.now c.args.block.now)

pub put_arms-block-preserved : goal.put_arms-block-preserved
put_arms-block-preserved t c = each_more c.args.names.now printed_stmt c.block.statement-index c.as_slice-block.result.now c.statement-item.result c.block.page c.put_statement.new.page _ c.block-test.true c.statement-item.is c.block.invariant c.in_ok-put_statement.ensures

pub put_arms-arms-preserved : goal.put_arms-arms-preserved
put_arms-arms-preserved t c =
    let names = c.args.names.now in
    let a = c.one-item.result in
    let last = each_end names printed_stmt c.block.statement-index c.as_slice-block.result.now c.block.page _ c.block-test.false c.block.invariant in
    arms_more names c.arms.is_first c.arms.one-index c.args.arms.now a c.arms.page c.put_sign-in-arms.new.page _ c.arms-test.true c.one-item.is c.arms.invariant
    (rw (c.in_ok-put_sign-2.ensures, last, c.in_ok-put_sign.ensures, c.in_ok-put_expression.ensures, c.in_ok-put_if.ensures, c.as_slice-block.ensures) (sym (arm_text names (opened c.arms.is_first c.arms.page) a)))

pub put_arms-returns : goal.put_arms-returns
put_arms-returns t c = arms_end c.args.names.now c.arms.is_first c.arms.one-index c.args.arms.now c.arms.page _ c.arms-test.false c.arms.invariant

pub put_guarded-block-preserved : goal.put_guarded-block-preserved
put_guarded-block-preserved t c = each_more c.args.names.now printed_stmt c.block.statement-index c.as_slice-block.result.now c.statement-item.result c.block.page c.put_statement.new.page _ c.block-test.true c.statement-item.is c.block.invariant c.in_ok-put_statement.ensures

pub put_guarded-arms-preserved : goal.put_guarded-arms-preserved
put_guarded-arms-preserved t c =
    let names = c.args.names.now in
    let a = c.one-item.result in
    let last = each_end names printed_stmt c.block.statement-index c.as_slice-block.result.now c.block.page _ c.block-test.false c.block.invariant in
    each_more names guarded c.arms.one-index c.args.arms.now a c.arms.page c.put_sign-in-arms-2.new.page _ c.arms-test.true c.one-item.is c.arms.invariant
    (rw (c.in_ok-put_sign-3.ensures, last, c.in_ok-put_sign-2.ensures, c.in_ok-put_sign.ensures, c.in_ok-put_expression.ensures, c.as_slice-block.ensures) (sym (guarded_text names c.arms.page a)))

pub put_guarded-returns : goal.put_guarded-returns
put_guarded-returns t c = each_end c.args.names.now guarded c.arms.one-index c.args.arms.now c.arms.page _ c.arms-test.false c.arms.invariant
