use Rattle.std.proofs.Common.{◌≡◌, ◌∙◌, sym, ap, subst, refl, arith, false, get_or, List, length, cond}
use Rattle.std.proofs.lemmas.List.Elements.{All-contains}
use Rattle.std.proofs.lemmas.List.{get_or_default}
use Rattle.uc_circuit.specs.declared.signal.Signal.{Signal}
use Rattle.uc_circuit.specs.declared.signal.Signal.TheVariants.{Constant}
use Rattle.uc_circuit.specs.Signals.{AllBelow, number, signal_value, Below}
use Rattle.uc_circuit.specs.Building.{size}
use Rattle.uc_circuit.specs.Meanings.{Amounts}
use Rattle.uc_circuit.specs.Shifting.{moved, fill_of}
use Rattle.uc_circuit.proofs.Growing.{grows-refl, below-grown, grows-trans}
use Rattle.uc_circuit.proofs.Shifts.{shift-start, shift-turn, moved-below, power-more}
use Rattle.uc_circuit.proofs.shifting.shift_near.Goals as goal

pub loop-i-init : goal.loop-i-init
loop-i-init c = (refl, shift-start _ _ c.args.a.now c.args.amount.now _ c.in_ok-bits.ensures.items c.requires.a (grows-refl _))

pub choose_each-requires-clause-a : goal.choose_each-requires-clause-a
choose_each-requires-clause-a c =
    let is : c.as_slice-in-loop-i.result.now ≡ moved c.args.shift c.loop-i.bits.items c.loop-i.places =
    c.as_slice-in-loop-i.ensures.value ∙ c.in_ok-moved.ensures ∙ ap (λ (xs : List Signal). moved c.args.shift xs c.loop-i.places) c.as_slice.ensures.value in
    subst (AllBelow (size c.loop-i.gates)) (sym is)
    (moved-below (size c.loop-i.gates) c.args.shift c.loop-i.bits.items c.loop-i.places (below-grown _ _ c.loop-i.invariant.1.grows (fill_of c.args.shift) c.requires.fill) c.loop-i.invariant.1.amounts.below)

pub loop-i-preserved : goal.loop-i-preserved
loop-i-preserved c =
    let is : c.as_slice-in-loop-i.result.now ≡ moved c.args.shift c.loop-i.bits.items c.loop-i.places =
    c.as_slice-in-loop-i.ensures.value ∙ c.in_ok-moved.ensures ∙ ap (λ (xs : List Signal). moved c.args.shift xs c.loop-i.places) c.as_slice.ensures.value in
    let near = c.requires.near c.loop-i.i c.loop-i-test.true in (
      power-more _ _ c.loop-i.invariant.0,
      shift-turn _ _ _ c.args.shift c.args.a.now c.args.amount.now c.loop-i.bits.items c.as_slice-in-loop-i.result.now _ c.loop-i.i c.loop-i.places (Constant false)
          c.loop-i-test.true c.loop-i.invariant.0 (omega (arith, near, c.loop-i.invariant.0)) c.loop-i.invariant.1 is c.choose_each.ensures.grows
          (subst (λ (xs : List Signal). Amounts c.choose_each.new.gates (length c.as_slice-in-loop-i.result.now) (λ v. cond (signal_value v (get_or c.args.amount.now c.loop-i.i (Constant false))) (number v c.as_slice-in-loop-i.result.now) (number v xs)) c.in_ok-bits-2.bits.items) c.as_slice-in-loop-i-2.ensures.value c.in_ok-bits-2.ensures.ok),
    )

pub choose_each-requires-clause-b : goal.choose_each-requires-clause-b
choose_each-requires-clause-b c = rw c.as_slice-in-loop-i-2.ensures.value c.loop-i.invariant.1.amounts.below

pub returns-in_err-moved-clause-grows : goal.returns-in_err-moved-clause-grows
returns-in_err-moved-clause-grows c = c.loop-i.invariant.1.grows

pub returns-in_err-bits-2-clause-grows : goal.returns-in_err-bits-2-clause-grows
returns-in_err-bits-2-clause-grows c = grows-trans _ _ _ c.loop-i.invariant.1.grows c.choose_each.ensures.grows

pub returns-clause-grows : goal.returns-clause-grows
returns-clause-grows c = c.loop-i.invariant.1.grows

pub choose_each-requires-clause-condition : goal.choose_each-requires-clause-condition
choose_each-requires-clause-condition c =
    let x = get_or c.args.amount.now c.loop-i.i (Constant false) in
    let within = c.loop-i-test.true in
    below-grown _ _ c.loop-i.invariant.1.grows x (All-contains (Below (size c.args.gates.now)) c.args.amount.now x c.requires.amount (c.loop-i.i, within, sym (get_or_default c.args.amount.now c.loop-i.i (Constant false) x within)))
