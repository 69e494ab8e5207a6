use Rattle.std.proofs.Common.{arith, get_or, false}
use Rattle.uc_circuit.specs.declared.signal.Signal.TheVariants.{Constant}
use Rattle.uc_circuit.proofs.Orders.{less-turn, less-more}
use Rattle.uc_circuit.proofs.Growing.{grows-trans}
use Rattle.uc_circuit.proofs.comparing.less.Goals as goal

pub loop-i-preserved : goal.loop-i-preserved
loop-i-preserved c =
    let x = get_or c.args.a.now c.loop-i.i (Constant false) in
    let y = get_or c.args.b.now c.loop-i.i (Constant false) in
    less-turn _ _ _ _ _ _ x y y c.loop-i.less c.in_ok-differ.differ c.in_ok-less.less c.loop-i.invariant c.xor.ensures.grows c.in_ok-differ.ensures.ok c.choose.ensures.grows c.in_ok-less.ensures.ok
    (λ v. less-more v c.args.a.now c.args.b.now c.loop-i.i (Constant false) (Constant false) c.loop-i-test.true (omega arith))

pub returns-in_err-differ-clause-grows : goal.returns-in_err-differ-clause-grows
returns-in_err-differ-clause-grows c = grows-trans _ _ _ c.loop-i.invariant.0 c.xor.ensures.grows

pub returns-in_err-less-clause-grows : goal.returns-in_err-less-clause-grows
returns-in_err-less-clause-grows c = grows-trans _ _ _ c.loop-i.invariant.0 (grows-trans _ _ _ c.xor.ensures.grows c.choose.ensures.grows)

pub returns-clause-grows : goal.returns-clause-grows
returns-clause-grows c = c.loop-i.invariant.0
