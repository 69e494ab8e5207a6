use Rattle.std.proofs.Common.{◌∙◌}
use Rattle.uc_circuit.proofs.Pushing.{amounts-same, if_ok-weaker}
use Rattle.uc_circuit.proofs.BitByBit.{turned-all}
use Rattle.uc_circuit.proofs.Sums.{difference}
use Rattle.uc_circuit.proofs.adding.subtract.Goals as goal

pub add_each-requires-clause-b : goal.add_each-requires-clause-b
add_each-requires-clause-b c = turned-all _ c.args.b.now _ (c.as_slice.ensures.value ∙ c.in_ok-turned.ensures) c.requires.b

pub returns-clause-ok : goal.returns-clause-ok
returns-clause-ok c =
    if_ok-weaker _ _ _ (λ r a. amounts-same _ _ _ _ _ (λ v o. difference v c.args.a.now c.args.b.now _ (c.as_slice.ensures.value ∙ c.in_ok-turned.ensures) c.requires.long) a) c.add_each.ensures.ok
