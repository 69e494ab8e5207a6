use Rattle.std.proofs.Common.{◌∙◌, arith, ap, length, replicate}
use Rattle.std.proofs.lemmas.List.{take_rest}
use Rattle.uc_circuit.proofs.Shifts.{shift-all}
use Rattle.uc_circuit.proofs.Pushing.{if_ok-weaker}
use Rattle.uc_circuit.proofs.Growing.{grows-trans}
use Rattle.uc_circuit.proofs.shifting.shift_by.Goals as goal

pub returns-clause-ok : goal.returns-clause-ok
returns-clause-ok c =
    if_ok-weaker _ _ _ (λ r m. shift-all _ _ _ c.args.shift c.args.a.now c.args.amount.now c.in_ok-bits.bits.items c.as_slice-2.result.now _ c.as_slice.result.now c.near_bits-near.result c.in_ok-far.far _
    (omega arith) c.near_bits-near.ensures.far c.in_ok-bits.ensures.ok c.as_slice-2.ensures.value (take_rest c.args.amount.now c.near_bits-near.result) c.any.ensures.grows c.in_ok-far.ensures.ok
    (c.as_slice.ensures.value ∙ c.in_ok-fills.ensures.items_if_clones_equal (λ y e. e) ∙ ap (replicate (length c.args.a.now)) c.fill.ensures) c.choose_each.ensures.grows m) c.choose_each.ensures.ok

pub choose_each-requires-clause-condition : goal.choose_each-requires-clause-condition
choose_each-requires-clause-condition c = c.in_ok-far.ensures.ok.below

pub returns-in_err-far-clause-grows : goal.returns-in_err-far-clause-grows
returns-in_err-far-clause-grows c = grows-trans _ _ _ c.shift_near.ensures.grows c.any.ensures.grows

pub returns-in_err-fills-clause-grows : goal.returns-in_err-fills-clause-grows
returns-in_err-fills-clause-grows c = grows-trans _ _ _ c.shift_near.ensures.grows c.any.ensures.grows

pub returns-clause-grows : goal.returns-clause-grows
returns-clause-grows c = grows-trans _ _ _ c.shift_near.ensures.grows (grows-trans _ _ _ c.any.ensures.grows c.choose_each.ensures.grows)
