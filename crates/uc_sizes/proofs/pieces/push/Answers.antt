use Rattle.std.proofs.Common.{refl}
use Rattle.uc_sizes.proofs.CodePiecesSums.{piece_added}
use Rattle.uc_sizes.proofs.pieces.push.Goals as goal

pub returns : goal.returns
returns c = piece_added _ _ _ _ _ c.in_ok-push.ensures.ok refl refl
