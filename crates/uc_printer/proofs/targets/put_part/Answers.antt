use Rattle.std.proofs.Common.{sym}
use Rattle.uc_printer.proofs.StatementWords.{element_text}
use Rattle.uc_printer.proofs.targets.put_part.Goals as goal

pub returns-in_ok-put_sign-in-Element-2 : goal.returns-in_ok-put_sign-in-Element-2
returns-in_ok-put_sign-in-Element-2 c = rw (c.in_ok-put_sign-in-Element-2.ensures, c.in_ok-put_expression-in-Element.ensures, c.in_ok-put_sign-in-Element.ensures, c.in-Element.is) (sym (element_text c.args.names.now c.args.page.now c.in-Element.field-0 c.in-Element.index))
