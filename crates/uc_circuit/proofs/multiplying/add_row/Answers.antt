use Rattle.std.proofs.Common.{sym, subst, refl}
use Rattle.std.proofs.lemmas.List.{take_rest}
use Rattle.uc_circuit.specs.Meanings.{Amounts}
use Rattle.uc_circuit.proofs.Joins.{both-lists}
use Rattle.uc_circuit.proofs.Products.{row-all}
use Rattle.uc_circuit.proofs.Growing.{grows-trans}
use Rattle.uc_circuit.proofs.multiplying.add_row.Goals as goal

pub returns-clause-ok : goal.returns-clause-ok
returns-clause-ok c =
    row-all c.args.gates.now _ _ c.args.sum.now c.args.a.now c.as_slice.result.now c.as_slice-2.result.now _ _ c.args.by c.args.places
    c.requires.places c.requires.long c.requires.sum c.times_bit.ensures.grows (subst (Amounts _ _ _) (sym c.as_slice.ensures.value) c.in_ok-row.ensures.ok)
    (take_rest c.args.sum.now c.args.places) c.add_each.ensures.grows (subst (Amounts _ _ _) (sym c.as_slice-2.ensures.value) c.in_ok-high.ensures.ok)
    (both-lists _ _ _ _ _ c.in_ok-extend_from_slice.ensures.items c.in_ok-bits.ensures.items refl)

pub returns-in_err-high-clause-grows : goal.returns-in_err-high-clause-grows
returns-in_err-high-clause-grows c = grows-trans _ _ _ c.times_bit.ensures.grows c.add_each.ensures.grows

pub returns-in_err-bits-clause-grows : goal.returns-in_err-bits-clause-grows
returns-in_err-bits-clause-grows c = grows-trans _ _ _ c.times_bit.ensures.grows c.add_each.ensures.grows

pub returns-in_err-extend_from_slice-clause-grows : goal.returns-in_err-extend_from_slice-clause-grows
returns-in_err-extend_from_slice-clause-grows c = grows-trans _ _ _ c.times_bit.ensures.grows c.add_each.ensures.grows

pub returns-clause-grows : goal.returns-clause-grows
returns-clause-grows c = grows-trans _ _ _ c.times_bit.ensures.grows c.add_each.ensures.grows
