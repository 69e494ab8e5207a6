use Rattle.uc_sizes.proofs.CodePiecesForms.{part_amount}
use Rattle.uc_sizes.proofs.CodePiecesSums.{SummedUpTo}
use Rattle.uc_sizes.proofs.code_pieces.add_part_indices.Given as goal

abbrev pub invariant-loop-part : goal.invariant-loop-part
invariant-loop-part l = SummedUpTo part_amount l.parts l.fn.pieces l.times l.part-index l.pieces
