use Rattle.std.proofs.Common.{refl, ap, ◌∙◌}
use Rattle.uc_sizes.proofs.CodePiecesForms.{one_expression, part_amount, parts_amount}
use Rattle.uc_sizes.proofs.CodePiecesSums.{adds_none, adds_same, adds_shown, summed_begin, summed_end, summed_more}
use Rattle.uc_sizes.proofs.code_pieces.add_part_indices.Goals as goal
use Rattle.uc_sizes.proofs.code_pieces.add_part_indices.Goals.{in-Field, in-Element+in_ok-push-in-Element}

pub loop-part-init : goal.loop-part-init
loop-part-init c = summed_begin _ _ _ _

pub loop-part-preserved : goal.loop-part-preserved
loop-part-preserved c =
    summed_more part_amount _ _ _ _ _ _ c.part-item.result _ c.loop-part.invariant c.loop-part-test.true c.part-item.is
    (elim c.match-part.branch [
      | in-Field w ↦ adds_shown _ _ _ _ _ _ w.pieces-is (adds_none _ _ (λ s. 0) (λ s. refl)) (λ s. ap (part_amount s) w.in-Field.is)
      | in-Element+in_ok-push-in-Element w ↦ adds_shown _ _ _ _ _ _ w.pieces-is w.in_ok-push-in-Element.ensures (λ s. ap (part_amount s) w.in-Element.is ∙ one_expression s _)
    ])

pub returns : goal.returns
returns c = adds_same _ _ _ _ _ (summed_end _ _ _ _ _ _ c.loop-part.invariant c.loop-part-test.false) (λ s. parts_amount s _)
