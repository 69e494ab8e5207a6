use Rattle.std.proofs.Common.{false}
use Rattle.uc_circuit.specs.declared.signal.Signal.TheVariants.{Constant}
use Rattle.uc_circuit.proofs.Shifts.{any-turn}
use Rattle.uc_circuit.proofs.Growing.{grows-trans}
use Rattle.uc_circuit.proofs.shifting.any.Goals as goal

pub loop-i-preserved : goal.loop-i-preserved
loop-i-preserved c =
    any-turn _ _ _ c.args.a.now c.loop-i.i (Constant false) c.loop-i.found c.in_ok-found.found c.loop-i-test.true c.loop-i.invariant c.or.ensures.grows c.in_ok-found.ensures.ok

pub returns-in_err-found-clause-grows : goal.returns-in_err-found-clause-grows
returns-in_err-found-clause-grows c = grows-trans _ _ _ c.loop-i.invariant.0 c.or.ensures.grows

pub returns-clause-grows : goal.returns-clause-grows
returns-clause-grows c = c.loop-i.invariant.0
