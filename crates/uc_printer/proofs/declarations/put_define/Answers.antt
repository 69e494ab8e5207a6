use Rattle.std.proofs.Common.{sym}
use Rattle.uc_print_laws.specs.Printed.{nowhere}
use Rattle.uc_printer.proofs.DeclarationWords.{define_text}
use Rattle.uc_printer.proofs.declarations.put_define.Goals as goal

pub returns : goal.returns
returns c = rw (c.in_ok-put_sign-3.ensures, c.in_ok-put_expression.ensures, c.in_ok-put_sign-2.ensures, c.in_ok-put_function_head.ensures, c.in_ok-put_sign.ensures)
    (sym (define_text c.args.names.now c.args.page.now nowhere c.args.name c.args.parameters.now c.args.ty.now c.args.body.now))
