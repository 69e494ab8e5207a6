use Rattle.std.proofs.Common.{arith, get_or, false, length, ◌-◌}
use Rattle.uc_circuit.specs.declared.signal.Signal.TheVariants.{Constant}
use Rattle.uc_circuit.proofs.Orders.{less-turn, signed-more}
use Rattle.uc_circuit.proofs.Pushing.{if_ok-weaker}
use Rattle.uc_circuit.proofs.Growing.{grows-trans}
use Rattle.uc_circuit.proofs.comparing.less_signed.Goals as goal

pub returns-clause-ok : goal.returns-clause-ok
returns-clause-ok c =
    let top = length c.args.a.now - 1 in
    let x = get_or c.args.a.now top (Constant false) in
    let y = get_or c.args.b.now top (Constant false) in
    if_ok-weaker _ _ _ (λ r m. (less-turn c.args.gates.now c.less.new.gates c.xor.new.self c.choose.new.self _ _ x y x c.in_ok-low.low c.in_ok-differ.differ r
    (c.less.ensures.grows, c.in_ok-low.ensures.ok) c.xor.ensures.grows c.in_ok-differ.ensures.ok c.choose.ensures.grows m
    (λ v. signed-more v c.args.a.now c.args.b.now top (Constant false) (Constant false) (omega arith) c.requires.long)).1) c.choose.ensures.ok

pub returns-in_err-differ-clause-grows : goal.returns-in_err-differ-clause-grows
returns-in_err-differ-clause-grows c = grows-trans _ _ _ c.less.ensures.grows c.xor.ensures.grows

pub returns-clause-grows : goal.returns-clause-grows
returns-clause-grows c = grows-trans _ _ _ c.less.ensures.grows (grows-trans _ _ _ c.xor.ensures.grows c.choose.ensures.grows)
