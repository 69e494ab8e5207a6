use Rattle.uc_print_laws.specs.Declarations.{decl_words}
use Rattle.uc_print_laws.proofs.Written.{each_more, each_end}
use Rattle.uc_printer.proofs.declarations.put_declarations.Goals as goal

pub declarations-preserved : goal.declarations-preserved
declarations-preserved c = each_more c.args.names.now decl_words c.declarations.declaration-index c.args.declarations.now c.declaration-item.result c.declarations.page c.put_declaration.new.page _ c.declarations-test.true c.declaration-item.is c.declarations.invariant c.in_ok-put_declaration.ensures

pub returns : goal.returns
returns c = each_end c.args.names.now decl_words c.declarations.declaration-index c.args.declarations.now c.declarations.page _ c.declarations-test.false c.declarations.invariant
