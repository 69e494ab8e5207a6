use Rattle.uc_runnable.proofs.Answers.{block_turn}
use Rattle.uc_runnable.proofs.statements.unfit_block.Goals as goal

pub loop-k-preserved : goal.loop-k-preserved
loop-k-preserved c = block_turn c.args.names.now c.args.writing c.args.block.now c.loop-k.k c.in_ok-has_code.field-0 c.loop-k-test.true c.in_ok-has_code.ensures c.if-not-branch.false c.loop-k.invariant
