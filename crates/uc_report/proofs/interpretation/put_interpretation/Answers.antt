use Rattle.uc_report.specs.Described.{described}
use Rattle.uc_report.proofs.Constants.{none_said, some_said}
use Rattle.uc_report.proofs.interpretation.put_interpretation.Goals as goal

pub returns-then-is_empty : goal.returns-then-is_empty
returns-then-is_empty c =
    none_said (described c.args.d.now) c.args.interp.now c.args.tables.now.constants.now c.is_empty.result c.args.out.now.items c.requires.constants c.is_empty.ensures c.if-is_empty.true

pub returns : goal.returns
returns c =
    some_said (described c.args.d.now) c.args.interp.now c.args.tables.now.constants.now c.as_slice.result.now c.is_empty.result c.args.out.now.items c.put.new.out.items c.put_constants.new.out.items
    c.requires.constants c.is_empty.ensures c.if-is_empty.false c.as_slice.ensures c.in_ok-put.ensures c.in_ok-put_constants.ensures
