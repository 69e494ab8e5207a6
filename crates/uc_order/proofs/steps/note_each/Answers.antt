use Rattle.std.specs.List.{flat_map}
use Rattle.uc_order_rules.specs.Stepped.{stepped_twice}
use Rattle.uc_order_rules.specs.Writes.{twice_in_code, sequential_in}
use Rattle.uc_statement_rules.proofs.Noted.{noted_begin, noted_both, noted_end, noted_more}
use Rattle.uc_order.proofs.Noting.{own_twice}
use Rattle.uc_order.proofs.steps.note_each.Goals as goal

pub loop-code-init : goal.loop-code-init
loop-code-init c = noted_begin own_twice c.args.modules.now c.args.first.now

pub loop-code-preserved : goal.loop-code-preserved
loop-code-preserved c =
    noted_more own_twice c.args.modules.now c.args.first.now c.loop-code.code-index c.loop-code.first c.note_stepped_twice.new.first c.code-item.result c.code-item.result
    c.loop-code.invariant c.loop-code-test.true c.code-item.is
    (noted_both c.loop-code.first c.note_named_twice.new.first c.note_stepped_twice.new.first (flat_map (λ d. twice_in_code (sequential_in d)) c.code-item.result.decls) (stepped_twice c.code-item.result)
    c.in_ok-note_named_twice.ensures c.in_ok-note_stepped_twice.ensures)

pub returns : goal.returns
returns c = noted_end own_twice c.args.modules.now c.args.first.now c.loop-code.code-index c.loop-code.first c.loop-code.invariant c.loop-code-test.false
