use Rattle.std.proofs.Common.{arith, get_or, false}
use Rattle.uc_circuit.specs.declared.signal.Signal.TheVariants.{Constant}
use Rattle.uc_circuit.proofs.Orders.{equal-turn, equal-more}
use Rattle.uc_circuit.proofs.Growing.{grows-trans}
use Rattle.uc_circuit.proofs.comparing.equal.Goals as goal

pub loop-i-preserved : goal.loop-i-preserved
loop-i-preserved c =
    let x = get_or c.args.a.now c.loop-i.i (Constant false) in
    let y = get_or c.args.b.now c.loop-i.i (Constant false) in
    equal-turn _ _ _ _ _ _ x y c.loop-i.same c.in_ok-differ.differ _ c.in_ok-same.same c.loop-i.invariant c.xor.ensures.grows c.in_ok-differ.ensures.ok c.turn.ensures c.and.ensures.grows c.in_ok-same.ensures.ok
    (λ v. equal-more v c.args.a.now c.args.b.now c.loop-i.i (Constant false) (Constant false) c.loop-i-test.true (omega arith))

pub returns-in_err-differ-clause-grows : goal.returns-in_err-differ-clause-grows
returns-in_err-differ-clause-grows c = grows-trans _ _ _ c.loop-i.invariant.0 c.xor.ensures.grows

pub returns-in_err-same-clause-grows : goal.returns-in_err-same-clause-grows
returns-in_err-same-clause-grows c = grows-trans _ _ _ c.loop-i.invariant.0 (grows-trans _ _ _ c.xor.ensures.grows c.and.ensures.grows)

pub returns-clause-grows : goal.returns-clause-grows
returns-clause-grows c = c.loop-i.invariant.0
