use Rattle.std.proofs.Common.{sym}
use Rattle.uc_print_laws.specs.Printed.{nowhere}
use Rattle.uc_printer.proofs.DeclarationWords.{instance_text}
use Rattle.uc_printer.proofs.declarations.put_instance.Goals as goal

pub returns : goal.returns
returns c = rw (
  c.in_ok-put_sign-5.ensures,
  c.in_ok-put_sign-4.ensures,
  c.in_ok-put_bindings.ensures,
  c.in_ok-put_sign-3.ensures,
  c.in_ok-put_name-2.ensures,
  c.in_ok-put_sign-2.ensures,
  c.in_ok-put_name.ensures,
  c.in_ok-put_sign.ensures,
)
    (sym (instance_text c.args.names.now c.args.page.now nowhere c.args.name c.args.source c.args.bindings.now))
