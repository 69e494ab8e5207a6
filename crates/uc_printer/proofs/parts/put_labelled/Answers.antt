use Rattle.std.proofs.Common.{sym, ◌∙◌}
use Rattle.uc_grammar.specs.declared.word.Kind.TheVariants.{Semicolon}
use Rattle.uc_print_laws.specs.Printed.{◌<+>◌, sign}
use Rattle.uc_print_laws.specs.Expressions.{printed_expr}
use Rattle.uc_printer.proofs.StatementWords.{ended_text}
use Rattle.uc_printer.proofs.parts.put_labelled.Goals as goal

pub returns : goal.returns
returns c = rw (c.in_ok-put_sign.ensures, c.in_ok-put_expression.ensures) (sym (ended_text c.args.names.now c.put_label.new.page c.args.expression.now) ∙ c.in_ok-put_label.ensures (printed_expr c.args.expression.now <+> sign Semicolon))
