use Rattle.std.proofs.Common.{arith, sym, ap, ◌∙◌}
use Rattle.std.specs.Option.{option_copied}
use Rattle.uc_symstep.specs.Cost.{cost, costs}
use Rattle.uc_symstep.proofs.Grown.{cells_grow}
use Rattle.uc_symstep.proofs.Formulas.{cell_term, no_cell, parts_typed, parts_more, parts_suit, apply_term, cost_apply, cost_at, item_typed}
use Rattle.uc_symstep.proofs.Known.{cell_known, apply_known, parts_read, push_known, item_read, all_known_grow}
use Rattle.uc_symstep.proofs.formula.+sym_expression.Goals as goal

pub sym_expression-unreachable-requires : goal.sym_expression-unreachable-requires
sym_expression-unreachable-requires t c = no_cell _ _ _ _ _ c.in-Cell.is c.requires.cells (sym c.at.ensures ∙ ap option_copied c.in-None.is) c.requires.typed

pub sym_expression-returns-in-Some-clause-ok : goal.sym_expression-returns-in-Some-clause-ok
sym_expression-returns-in-Some-clause-ok t c = cell_term _ _ _ _ _ _ c.in-Cell.is c.requires.cells (sym c.in-Some.ensures)

pub sym_expression-sym_parts-requires : goal.sym_expression-sym_parts-requires
sym_expression-sym_parts-requires t c = (
  omega (arith, c.decreases, ap cost c.in-Apply.is, cost_apply c.in-Apply.op c.in-Apply.parts, ap costs c.as_slice.ensures),
  (c.requires.cells, parts_typed _ _ _ _ _ c.in-Apply.is c.as_slice.ensures c.requires.typed),
)

pub sym_expression-mk-requires-clause-suits : goal.sym_expression-mk-requires-clause-suits
sym_expression-mk-requires-clause-suits t c = parts_suit _ _ _ _ _ _ _ _ _ _ _ c.in-Apply.is c.as_slice.ensures c.in_ok-op-in-Apply.ensures c.as_slice-in-Apply.ensures c.requires.typed c.in_ok-made-in-Apply.ensures.ok

pub sym_expression-returns-in_ok-t-in-Apply-clause-ok : goal.sym_expression-returns-in_ok-t-in-Apply-clause-ok
sym_expression-returns-in_ok-t-in-Apply-clause-ok t c =
    apply_term _ _ _ _ _ _ _ _ _ _ _ _ _ c.in-Apply.is c.as_slice.ensures c.in_ok-op-in-Apply.ensures c.as_slice-in-Apply.ensures c.in_ok-made-in-Apply.ensures.ok c.in_ok-t-in-Apply.ensures.ok c.in_ok-t-in-Apply.ensures.value

pub sym_parts-sym_expression-requires : goal.sym_parts-sym_expression-requires
sym_parts-sym_expression-requires t c = (
  omega (arith, c.decreases, cost_at _ _ _ c.loop-part-test.true c.part-item.is),
  (cells_grow _ _ _ _ c.loop-part.invariant.terms.grown c.requires.cells, item_typed _ _ _ _ c.loop-part-test.true c.part-item.is c.requires.typed),
)

pub sym_parts-loop-part-preserved : goal.sym_parts-loop-part-preserved
sym_parts-loop-part-preserved t c = record {
  terms = parts_more _ _ _ _ _ _ _ _ _ _ _ c.requires.cells c.loop-part.invariant.terms c.in_ok-t.ensures.ok c.loop-part-test.true c.part-item.is c.in_ok-push.ensures.ok;
  known = λ supply reads h.
      push_known supply _ _ _ _ _ c.in_ok-t.ensures.grown c.in_ok-push.ensures.ok (c.loop-part.invariant.known supply reads h)
      (c.in_ok-t.ensures.known supply (item_read supply _ _ _ c.loop-part-test.true c.part-item.is reads) (all_known_grow supply _ _ c.loop-part.invariant.terms.grown _ h));
}

pub sym_expression-returns-in-Some-clause-known : goal.sym_expression-returns-in-Some-clause-known
sym_expression-returns-in-Some-clause-known t c = λ supply reads h. cell_known supply _ _ _ _ (sym c.in-Some.ensures) h

pub sym_expression-returns-in_ok-t-in-Apply-clause-known : goal.sym_expression-returns-in_ok-t-in-Apply-clause-known
sym_expression-returns-in_ok-t-in-Apply-clause-known t c = λ supply reads h.
    apply_known supply _ _ _ _ _ _ _ _ _ c.in-Apply.is c.in_ok-op-in-Apply.ensures c.as_slice-in-Apply.ensures reads
    (c.in_ok-made-in-Apply.ensures.known supply (parts_read supply _ _ _ _ c.in-Apply.is c.as_slice.ensures reads) h) c.in_ok-t-in-Apply.ensures.ok
