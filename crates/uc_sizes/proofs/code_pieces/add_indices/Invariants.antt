use Rattle.uc_sizes.proofs.CodePiecesForms.{target_amount}
use Rattle.uc_sizes.proofs.CodePiecesSums.{SummedUpTo}
use Rattle.uc_sizes.proofs.code_pieces.add_indices.Given as goal

abbrev pub invariant-loop-target : goal.invariant-loop-target
invariant-loop-target l = SummedUpTo target_amount l.targets l.fn.pieces l.times l.target-index l.pieces
