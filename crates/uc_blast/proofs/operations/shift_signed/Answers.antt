use Rattle.std.proofs.Common.{arith, length, ◌-◌}
use Rattle.uc_circuit.proofs.Pushing.{amounts-same, if_ok-weaker}
use Rattle.uc_circuit.specs.Signals.{number}
use Rattle.uc_blast.proofs.Tops.{signed-shift}
use Rattle.uc_blast.proofs.operations.shift_signed.Goals as goal

pub returns-clause-ok : goal.returns-clause-ok
returns-clause-ok c =
    if_ok-weaker _ _ _ (λ r m. amounts-same _ _ _ _ _ (λ v o. signed-shift v c.args.a.now (number v c.args.b.now) (length c.args.a.now - 1) _ (omega arith)) m) c.shift_by.ensures.ok
