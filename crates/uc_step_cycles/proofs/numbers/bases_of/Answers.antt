use Rattle.uc_step_cycles.proofs.Growing.{bases_all, bases_begin, bases_more, total_all}
use Rattle.uc_step_cycles.proofs.numbers.bases_of.Goals as goal

pub loop-block-init : goal.loop-block-init
loop-block-init c = bases_begin c.args.start c.args.blocks.now c.new-bases.result c.new-bases.ensures

pub loop-block-preserved : goal.loop-block-preserved
loop-block-preserved c =
    bases_more _ _ _ _ _ _ _ c.in_ok-size.size c.block-item.result _ c.loop-block.invariant c.loop-block-test.true c.block-item.is c.in_ok-push.ensures.ok c.in_ok-size.ensures c.in_ok-next.ensures

pub returns-clause-bases : goal.returns-clause-bases
returns-clause-bases c = bases_all _ _ _ _ _ c.loop-block.invariant c.loop-block-test.false

pub returns-clause-total : goal.returns-clause-total
returns-clause-total c = total_all _ _ _ _ _ c.loop-block.invariant c.loop-block-test.false
