use Rattle.std.proofs.Common.{arith}
use Rattle.uc_circuit.proofs.Digits.{digits-more, digits-all}
use Rattle.uc_circuit.proofs.constants.constant.Goals as goal

pub loop-bit-preserved : goal.loop-bit-preserved
loop-bit-preserved c = rw c.in_ok-push.ensures.items (digits-more _ _ _ _ c.loop-bit.invariant)

pub returns : goal.returns
returns c = digits-all _ _ _ _ _ (omega arith) c.requires.number c.loop-bit.invariant
