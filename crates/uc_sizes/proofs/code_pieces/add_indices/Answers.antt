use Rattle.std.proofs.Common.{ap, sym}
use Rattle.std.specs.List.{flat_map}
use Rattle.uc_order_rules.specs.Mentions.{part_index}
use Rattle.uc_sizes.specs.Pieces.{expressions_amount}
use Rattle.uc_sizes.proofs.CodePiecesForms.{target_amount, targets_amount}
use Rattle.uc_sizes.proofs.CodePiecesSums.{adds_same, summed_begin, summed_end, summed_more}
use Rattle.uc_sizes.proofs.code_pieces.add_indices.Goals as goal

pub loop-target-init : goal.loop-target-init
loop-target-init c = summed_begin _ _ _ _

pub loop-target-preserved : goal.loop-target-preserved
loop-target-preserved c =
    summed_more target_amount _ _ _ _ _ _ c.target-item.result _ c.loop-target.invariant c.loop-target-test.true c.target-item.is
    (adds_same _ _ _ _ _ c.in_ok-add_part_indices.ensures (λ s. ap (λ ps. expressions_amount (flat_map part_index ps) s) (sym c.as_slice.ensures)))

pub returns : goal.returns
returns c = adds_same _ _ _ _ _ (summed_end _ _ _ _ _ _ c.loop-target.invariant c.loop-target-test.false) (λ s. targets_amount s _)
