use Rattle.uc_sizes.specs.Pieces.{expression_amount}
use Rattle.uc_sizes.proofs.CodePiecesSums.{summed_begin, summed_end, summed_more}
use Rattle.uc_sizes.proofs.code_pieces.add_expressions.Goals as goal

pub loop-expression-init : goal.loop-expression-init
loop-expression-init c = summed_begin _ _ _ _

pub loop-expression-preserved : goal.loop-expression-preserved
loop-expression-preserved c =
    summed_more expression_amount _ _ _ _ _ _ c.expression-item.result _ c.loop-expression.invariant c.loop-expression-test.true c.expression-item.is c.in_ok-push.ensures

pub returns : goal.returns
returns c = summed_end _ _ _ _ _ _ c.loop-expression.invariant c.loop-expression-test.false
