use Rattle.uc_printer.proofs.DeclarationWords.{design_more}
use Rattle.uc_printer.proofs.design.print_modules.Goals as goal

pub modules-preserved : goal.modules-preserved
modules-preserved c = design_more c.args.names.now c.modules.module-index c.args.modules.now c.module-item.result c.modules.page c.put_module.new.page _ c.modules-test.true c.module-item.is c.modules.invariant c.in_ok-put_module.ensures
