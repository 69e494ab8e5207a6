use Rattle.uc_sizes.proofs.CodePiecesForms.{pieces_end}
use Rattle.uc_sizes.proofs.code_pieces.pieces_of.Goals as goal

pub returns : goal.returns
returns c = pieces_end _ _ _ c.new-pieces.ensures c.in_ok-add_code.ensures
