use Rattle.std.proofs.Common.{◌≡◌, ◌++◌, drop}
use Rattle.uc_print_laws.specs.Text.{design_text}
use Rattle.uc_printer.proofs.design.print_modules.Given as goal

abbrev pub invariant-modules : goal.invariant-modules
invariant-modules l = l.page ++ design_text l.names (drop l.module-index l.modules) ≡ design_text l.names l.modules
