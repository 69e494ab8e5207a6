use Rattle.std.proofs.Common.{arith}
use Rattle.uc_circuit.proofs.Turns.{turn-more}
use Rattle.uc_circuit.proofs.BitByBit.{and-more}
use Rattle.uc_circuit.proofs.Growing.{grows-trans}
use Rattle.uc_circuit.proofs.bitwise.and_each.Goals as goal

pub loop-i-preserved : goal.loop-i-preserved
loop-i-preserved c =
    rw c.in_ok-push.ensures.items (turn-more _ _ _ _ _ _ _ _ _ c.loop-i.invariant c.in_ok-and.ensures.grows c.in_ok-and.ensures.ok
    (λ v o. and-more v c.args.a.now c.args.b.now c.loop-i.i _ _ c.loop-i-test.true (omega arith)))

pub returns-in_err-and-clause-grows : goal.returns-in_err-and-clause-grows
returns-in_err-and-clause-grows c = grows-trans _ _ _ c.loop-i.invariant.grows c.in_err-and.ensures.grows

pub returns-in_err-push-clause-grows : goal.returns-in_err-push-clause-grows
returns-in_err-push-clause-grows c = grows-trans _ _ _ c.loop-i.invariant.grows c.in_ok-and.ensures.grows

pub returns-clause-grows : goal.returns-clause-grows
returns-clause-grows c = c.loop-i.invariant.grows
