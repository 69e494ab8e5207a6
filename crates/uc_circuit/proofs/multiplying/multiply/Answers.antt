use Rattle.std.proofs.Common.{arith, false, sym, get_or}
use Rattle.std.proofs.lemmas.List.Elements.{All-contains}
use Rattle.std.proofs.lemmas.List.{get_or_default}
use Rattle.uc_circuit.specs.Building.{size}
use Rattle.uc_circuit.specs.Signals.{Below}
use Rattle.uc_circuit.specs.declared.signal.Signal.TheVariants.{Constant}
use Rattle.uc_circuit.proofs.Products.{product-none, product-more, product-all}
use Rattle.uc_circuit.proofs.Growing.{grows-trans, all_below-grown, below-grown}
use Rattle.uc_circuit.proofs.multiplying.multiply.Goals as goal

pub loop-i-init : goal.loop-i-init
loop-i-init c = product-none _ c.args.a.now c.args.b.now _ (c.in_ok-sum.ensures.items_if_clones_equal (λ y e. e))

pub loop-i-preserved : goal.loop-i-preserved
loop-i-preserved c =
    product-more _ _ _ c.args.a.now c.args.b.now c.loop-i.sum.items c.as_slice.result.now c.in_ok-sum-2.sum.items c.loop-i.i (Constant false) c.loop-i-test.true
    c.loop-i.invariant c.as_slice.ensures.value c.add_row.ensures.grows c.in_ok-sum-2.ensures.ok

pub returns-clause-ok : goal.returns-clause-ok
returns-clause-ok c = product-all _ _ c.args.a.now c.args.b.now _ c.loop-i.i (omega arith) c.loop-i.invariant

pub add_row-requires-clause-sum : goal.add_row-requires-clause-sum
add_row-requires-clause-sum c = rw c.as_slice.ensures.value c.loop-i.invariant.amounts.below

pub add_row-requires-clause-a : goal.add_row-requires-clause-a
add_row-requires-clause-a c = all_below-grown _ _ c.loop-i.invariant.grows _ c.requires.a

pub returns-in_err-sum-2-clause-grows : goal.returns-in_err-sum-2-clause-grows
returns-in_err-sum-2-clause-grows c = grows-trans _ _ _ c.loop-i.invariant.grows c.add_row.ensures.grows

pub returns-clause-grows : goal.returns-clause-grows
returns-clause-grows c = c.loop-i.invariant.grows

pub add_row-requires-clause-by : goal.add_row-requires-clause-by
add_row-requires-clause-by c =
    let x = get_or c.args.b.now c.loop-i.i (Constant false) in
    let within = c.loop-i-test.true in
    below-grown _ _ c.loop-i.invariant.grows x (All-contains (Below (size c.args.gates.now)) c.args.b.now x c.requires.b (c.loop-i.i, within, sym (get_or_default c.args.b.now c.loop-i.i (Constant false) x within)))
