use Rattle.std.proofs.Common.{arith, ◌<◌, length, sym, get_or, false}
use Rattle.std.proofs.lemmas.List.Elements.{All-contains}
use Rattle.std.proofs.lemmas.List.{get_or_default}
use Rattle.uc_circuit.specs.Building.{size}
use Rattle.uc_circuit.specs.declared.signal.Signal.TheVariants.{Constant}
use Rattle.uc_circuit.specs.Signals.{Below}
use Rattle.uc_circuit.proofs.Sums.{adding-more, adding-all}
use Rattle.uc_circuit.proofs.Growing.{grows-trans, below-grown}
use Rattle.uc_circuit.proofs.adding.add_each.Goals as goal

pub loop-i-preserved : goal.loop-i-preserved
loop-i-preserved c =
    rw c.in_ok-push.ensures.items (adding-more _ _ _ _ _ _ _ _ _ _ _ _ _ c.loop-i-test.true (omega arith) c.loop-i.invariant c.add_bits.ensures.grows c.in_ok-sum.ensures.ok)

pub returns-clause-ok : goal.returns-clause-ok
returns-clause-ok c = adding-all _ _ _ _ _ _ _ _ (omega arith) c.requires.long c.loop-i.invariant

pub add_bits-requires-clause-carry : goal.add_bits-requires-clause-carry
add_bits-requires-clause-carry c = c.loop-i.invariant.last_below

pub returns-in_err-sum-clause-grows : goal.returns-in_err-sum-clause-grows
returns-in_err-sum-clause-grows c = grows-trans _ _ _ c.loop-i.invariant.grows c.add_bits.ensures.grows

pub returns-in_err-push-clause-grows : goal.returns-in_err-push-clause-grows
returns-in_err-push-clause-grows c = grows-trans _ _ _ c.loop-i.invariant.grows c.add_bits.ensures.grows

pub returns-clause-grows : goal.returns-clause-grows
returns-clause-grows c = c.loop-i.invariant.grows

pub add_bits-requires-clause-a : goal.add_bits-requires-clause-a
add_bits-requires-clause-a c =
    let x = get_or c.args.a.now c.loop-i.i (Constant false) in
    let within = c.loop-i-test.true in
    below-grown _ _ c.loop-i.invariant.grows x (All-contains (Below (size c.args.gates.now)) c.args.a.now x c.requires.a (c.loop-i.i, within, sym (get_or_default c.args.a.now c.loop-i.i (Constant false) x within)))

pub add_bits-requires-clause-b : goal.add_bits-requires-clause-b
add_bits-requires-clause-b c =
    let x = get_or c.args.b.now c.loop-i.i (Constant false) in
    let within : c.loop-i.i < length c.args.b.now = omega (arith, c.loop-i-test.true, c.requires.long) in
    below-grown _ _ c.loop-i.invariant.grows x (All-contains (Below (size c.args.gates.now)) c.args.b.now x c.requires.b (c.loop-i.i, within, sym (get_or_default c.args.b.now c.loop-i.i (Constant false) x within)))
