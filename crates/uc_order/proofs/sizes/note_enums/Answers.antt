use Rattle.uc_order_rules.specs.Sizes.{label_faults}
use Rattle.uc_statement_rules.proofs.Noted.{noted_begin, noted_end, noted_more}
use Rattle.uc_order.proofs.sizes.note_enums.Goals as goal

pub loop-code-init : goal.loop-code-init
loop-code-init c = noted_begin label_faults c.args.modules.now c.args.first.now

pub loop-code-preserved : goal.loop-code-preserved
loop-code-preserved c =
    noted_more label_faults c.args.modules.now c.args.first.now c.loop-code.code-index c.loop-code.first c.note_large_enums.new.first c.code-item.result c.code-item.result
    c.loop-code.invariant c.loop-code-test.true c.code-item.is c.in_ok-note_large_enums.ensures

pub returns : goal.returns
returns c = noted_end label_faults c.args.modules.now c.args.first.now c.loop-code.code-index c.loop-code.first c.loop-code.invariant c.loop-code-test.false
