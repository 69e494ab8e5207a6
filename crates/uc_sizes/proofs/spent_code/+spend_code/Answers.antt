use Rattle.std.proofs.Common.{◌≡◌, ◌++◌, ◌∷◌, [], suc, ◌-◌, refl, ap, ◌∙◌, sym, arith}
use Rattle.std.specs.Option.{option_and_then}
use Rattle.uc_lookup.specs.Parts.{system_in}
use Rattle.uc_meaning.specs.Lookup.{module_at, next_in, next_of, procedure_of}
use Rattle.uc_order_rules.specs.Sizes.{size_through, times}
use Rattle.uc_sizes.specs.Pieces.{piece_size}
use Rattle.uc_sizes.proofs.Spending.{memory_out, sizes_of, spends_none, spends_same, spends_stop, spends_two, spent_begin, spent_end, spent_more, spent_stop, stop_out}
use Rattle.uc_sizes.specs.Levels.{at_level, requires_size}
use Rattle.uc_sizes.proofs.SpentCodePieces.{again_is, code_spent, never_is, repeated_spent}
use Rattle.uc_sizes.proofs.Codes.{next_is, no_callee, no_levels, not_stepped_there, procedure_is, sizes_are, stepped_is}
use Rattle.uc_sizes.proofs.spent_code.+spend_code.Goals as goal

pub spend_call-returns-in-None : goal.spend_call-returns-in-None
spend_call-returns-in-None t c =
    spends_none _ _ (no_callee (system_in c.args.system.now) (size_through c.args.below (system_in c.args.system.now)) c.args.path.now (option_and_then (λ m. procedure_of m c.args.name) (module_at (system_in c.args.system.now) c.args.path.now)) c.in-None.ensures)

pub spend_code-returns-then-levels-eq0 : goal.spend_code-returns-then-levels-eq0
spend_code-returns-then-levels-eq0 t c = spends_none _ _ (no_levels _ _ _ _ c.if-levels-eq0.true)

pub spend_code-returns-in_err-pieces : goal.spend_code-returns-in_err-pieces
spend_code-returns-in_err-pieces t c = memory_out _ _ _ _ c.from_residual.ensures.1

pub spend_code-returns : goal.spend_code-returns
spend_code-returns t c =
    let some : c.args.levels ≡ suc (c.args.levels - 1) = omega (arith, c.if-levels-eq0.false) in
    code_spent _ _ _ (system_in c.args.system.now) _ _ c.args.path.now c.in_ok-pieces.pieces c.as_slice.result.now _ some c.in_ok-pieces.ensures c.as_slice.ensures c.spend_pieces.ensures

pub spend_next-loop-declaration-init : goal.spend_next-loop-declaration-init
spend_next-loop-declaration-init t c = spent_begin _ _ _

pub spend_next-loop-declaration-preserved : goal.spend_next-loop-declaration-preserved
spend_next-loop-declaration-preserved t c =
    spent_more (λ d. size_through c.args.below (system_in c.args.system.now) c.args.path.now (next_in d)) _ _ _ _ _ c.declaration-item.result _ _ c.loop-declaration.invariant c.loop-declaration-test.true c.declaration-item.is
    (spends_same _ _ _ _ _ c.in_ok-spend_code.ensures (ap (size_through c.args.below (system_in c.args.system.now) c.args.path.now) (sym c.next_in.ensures)))

pub spend_next-returns-in_err-spend_code : goal.spend_next-returns-in_err-spend_code
spend_next-returns-in_err-spend_code t c =
    stop_out _ _ _ _ _ c.from_residual.ensures.1
    (spends_same _ _ _ (sizes_of (λ d. size_through c.args.below (system_in c.args.system.now) c.args.path.now (next_in d)) c.as_slice-declaration-items.result.now) _
    (spent_stop (λ d. size_through c.args.below (system_in c.args.system.now) c.args.path.now (next_in d)) c.as_slice-declaration-items.result.now _ _ _ _ _ c.declaration-item.result _ _ c.loop-declaration.invariant c.loop-declaration-test.true c.declaration-item.is
    (spends_same _ _ _ _ _ c.in_err-spend_code.ensures (ap (size_through c.args.below (system_in c.args.system.now) c.args.path.now) (sym c.next_in.ensures))))
    (next_is c.args.below (system_in c.args.system.now) c.args.path.now c.args.code.now c.as_slice-declaration-items.result.now c.as_slice-declaration-items.ensures))

pub spend_next-returns : goal.spend_next-returns
spend_next-returns t c =
    spends_same _ _ _ (sizes_of (λ d. size_through c.args.below (system_in c.args.system.now) c.args.path.now (next_in d)) c.as_slice-declaration-items.result.now) _ (spent_end (λ d. size_through c.args.below (system_in c.args.system.now) c.args.path.now (next_in d)) _ _ _ _ c.loop-declaration.invariant c.loop-declaration-test.false)
    (next_is c.args.below (system_in c.args.system.now) c.args.path.now c.args.code.now c.as_slice-declaration-items.result.now c.as_slice-declaration-items.ensures)

pub spend_pieces-loop-repeated-init : goal.spend_pieces-loop-repeated-init
spend_pieces-loop-repeated-init t c = spent_begin _ _ _

pub spend_pieces-loop-repeated-preserved : goal.spend_pieces-loop-repeated-preserved
spend_pieces-loop-repeated-preserved t c =
    spent_more (λ r. times r.times (piece_size (at_level (system_in c.args.system.now) c.args.below c.args.path.now) r.piece)) _ _ _ _ _ c.repeated-item.result _ _ c.loop-repeated.invariant c.loop-repeated-test.true c.repeated-item.is c.in_ok-spend_repeated.ensures

pub spend_pieces-returns-in_err-spend_repeated : goal.spend_pieces-returns-in_err-spend_repeated
spend_pieces-returns-in_err-spend_repeated t c =
    stop_out _ _ _ _ _ c.from_residual.ensures.1
    (spends_same _ _ _ (sizes_of (λ r. times r.times (piece_size (at_level (system_in c.args.system.now) c.args.below c.args.path.now) r.piece)) c.args.pieces.now) _
    (spent_stop (λ r. times r.times (piece_size (at_level (system_in c.args.system.now) c.args.below c.args.path.now) r.piece)) c.args.pieces.now _ _ _ _ _ c.repeated-item.result _ _ c.loop-repeated.invariant c.loop-repeated-test.true c.repeated-item.is c.in_err-spend_repeated.ensures)
    (sym (sizes_are (λ r. times r.times (piece_size (at_level (system_in c.args.system.now) c.args.below c.args.path.now) r.piece)) c.args.pieces.now)))

pub spend_pieces-returns : goal.spend_pieces-returns
spend_pieces-returns t c = spends_same _ _ _ (sizes_of (λ r. times r.times (piece_size (at_level (system_in c.args.system.now) c.args.below c.args.path.now) r.piece)) c.args.pieces.now) _ (spent_end (λ r. times r.times (piece_size (at_level (system_in c.args.system.now) c.args.below c.args.path.now) r.piece)) _ _ _ _ c.loop-repeated.invariant c.loop-repeated-test.false) (sym (sizes_are (λ r. times r.times (piece_size (at_level (system_in c.args.system.now) c.args.below c.args.path.now) r.piece)) c.args.pieces.now))

pub spend_procedure-returns-in_err-spend_requires : goal.spend_procedure-returns-in_err-spend_requires
spend_procedure-returns-in_err-spend_requires t c =
    stop_out _ _ _ _ _ c.from_residual.ensures.1
    (spends_stop _ _ _ _ (requires_size (system_in c.args.system.now) c.args.path.now c.as_slice.result.now) (size_through c.args.below (system_in c.args.system.now) c.args.path.now c.args.procedure.now.body) _ c.in_err-spend_requires.ensures
    (procedure_is (system_in c.args.system.now) c.args.below c.args.path.now c.args.procedure.now _ _ c.as_slice.ensures refl))

pub spend_procedure-returns : goal.spend_procedure-returns
spend_procedure-returns t c =
    spends_two _ _ _ _ _ _ _ _ c.in_ok-spend_requires.ensures c.spend_code.ensures (procedure_is (system_in c.args.system.now) c.args.below c.args.path.now c.args.procedure.now _ _ c.as_slice.ensures c.as_slice-2.ensures)

pub spend_repeated-returns-then-repeated-eq0 : goal.spend_repeated-returns-then-repeated-eq0
spend_repeated-returns-then-repeated-eq0 t c = spends_none _ _ (never_is _ _ c.if-repeated-eq0.true)

pub spend_repeated-returns-in_err-spend_piece : goal.spend_repeated-returns-in_err-spend_piece
spend_repeated-returns-in_err-spend_piece t c =
    let some : c.args.repeated.times ≡ suc (c.args.repeated.times - 1) = omega (arith, c.if-repeated-eq0.false) in
    stop_out _ _ _ _ _ c.from_residual.ensures.1
    (spends_stop _ _ _ _ (piece_size (at_level (system_in c.args.system.now) c.args.below c.args.path.now) c.args.repeated.piece) (times (c.args.repeated.times - 1) (piece_size (at_level (system_in c.args.system.now) c.args.below c.args.path.now) c.args.repeated.piece)) _ c.in_err-spend_piece.ensures (again_is _ _ _ some))

pub spend_repeated-returns : goal.spend_repeated-returns
spend_repeated-returns t c =
    let some : c.args.repeated.times ≡ suc (c.args.repeated.times - 1) = omega (arith, c.if-repeated-eq0.false) in
    repeated_spent _ _ _ (piece_size (at_level (system_in c.args.system.now) c.args.below c.args.path.now) c.args.repeated.piece) _ _ _ (c.args.repeated.times - 1) some c.in_ok-spend_piece.ensures c.repeat.ensures

pub spend_step-returns-in_err-inside : goal.spend_step-returns-in_err-inside
spend_step-returns-in_err-inside t c = memory_out _ _ _ _ c.from_residual.ensures.1

pub spend_step-returns : goal.spend_step-returns
spend_step-returns t c =
    spends_none _ _
    (not_stepped_there (size_through c.args.below (system_in c.args.system.now)) (c.args.path.now ++ c.args.name ∷ []) c.as_slice.result.now (module_at (system_in c.args.system.now)) (c.as_slice.ensures ∙ c.in_ok-inside.ensures)
    c.in-None.ensures)
