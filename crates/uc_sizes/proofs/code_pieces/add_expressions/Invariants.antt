use Rattle.uc_sizes.specs.Pieces.{expression_amount}
use Rattle.uc_sizes.proofs.CodePiecesSums.{SummedUpTo}
use Rattle.uc_sizes.proofs.code_pieces.add_expressions.Given as goal

abbrev pub invariant-loop-expression : goal.invariant-loop-expression
invariant-loop-expression l = SummedUpTo expression_amount l.expressions l.fn.pieces l.times l.expression-index l.pieces
