use Rattle.std.proofs.Common.{◌∙◌}
use Rattle.uc_circuit.proofs.Pushing.{amounts-same, amounts-width, if_ok-weaker}
use Rattle.uc_circuit.proofs.Sums.{negation, zeros-long}
use Rattle.uc_circuit.proofs.adding.negate.Goals as goal

pub returns-clause-ok : goal.returns-clause-ok
returns-clause-ok c =
    let zs = c.as_slice.ensures.value ∙ c.in_ok-zeros.ensures.items_if_clones_equal (λ y e. e) in
    if_ok-weaker _ _ _ (λ r a. amounts-width _ _ _ _ _ (zeros-long c.args.a.now _ zs) (amounts-same _ _ _ _ _ (λ v o. negation v c.args.a.now _ zs) a)) c.subtract.ensures.ok
