use Rattle.std.proofs.Common.{get_or, refl, ap}
use Rattle.uc_flat_making.proofs.Entered.{labelled_more}
use Rattle.uc_flat_making.proofs.labels.enter_labels.Goals as goal

pub loop-place-preserved : goal.loop-place-preserved
loop-place-preserved c =
    labelled_more c.args.enum_number c.args.names.now _ _ _ c.loop-place.place (get_or c.args.names.now c.loop-place.place 0) 0 _
    c.loop-place.invariant c.loop-place-test.true refl (ap (λ k. (c.args.enum_number, k)) c.in_ok-place.ensures) c.in_ok-enter.ensures
