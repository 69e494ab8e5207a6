use Rattle.std.proofs.Common.{sym}
use Rattle.uc_print_laws.specs.Printed.{nowhere}
use Rattle.uc_printer.proofs.DeclarationWords.{alias_text}
use Rattle.uc_printer.proofs.declarations.put_type_alias.Goals as goal

pub returns : goal.returns
returns c = rw (c.in_ok-put_sign-3.ensures, c.in_ok-put_type.ensures, c.in_ok-put_sign-2.ensures, c.in_ok-put_name.ensures, c.in_ok-put_sign.ensures)
    (sym (alias_text c.args.names.now c.args.page.now nowhere c.args.name c.args.ty.now))
