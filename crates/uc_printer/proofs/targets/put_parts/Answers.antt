use Rattle.uc_print_laws.specs.Statements.{part_words}
use Rattle.uc_print_laws.proofs.Written.{each_more, each_end}
use Rattle.uc_printer.proofs.targets.put_parts.Goals as goal

pub parts-preserved : goal.parts-preserved
parts-preserved c = each_more c.args.names.now part_words c.parts.part-index c.args.parts.now c.part-item.result c.parts.page c.put_part.new.page _ c.parts-test.true c.part-item.is c.parts.invariant c.in_ok-put_part.ensures

pub returns : goal.returns
returns c = each_end c.args.names.now part_words c.parts.part-index c.args.parts.now c.parts.page _ c.parts-test.false c.parts.invariant
