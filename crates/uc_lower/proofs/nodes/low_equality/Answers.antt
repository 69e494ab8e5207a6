use Rattle.std.proofs.Common.{◌≡◌, ◌∙◌, sym, ap, subst}
use Rattle.uc_ops.specs.Typing.{types_at}
use Rattle.uc_terms.specs.Tables.{parts_at}
use Rattle.uc_lower.specs.Made.{Within}
use Rattle.uc_lower.specs.Steps.{IsLowOf, IsEquality, part_lows}
use Rattle.uc_lower.proofs.Inner.{eq_low, equality_low}
use Rattle.uc_lower.proofs.nodes.low_equality.Goals as goal

pub equality-requires-clause-left : goal.equality-requires-clause-left
equality-requires-clause-left c =
    let left : c.low_part-left.result.now ≡ part_lows c.args.lowered.now (parts_at c.args.terms.now c.args.t) 0 = c.low_part-left.ensures ∙ ap (λ ps. part_lows c.args.lowered.now ps 0) c.parts.ensures.parts in
    subst (Within c.args.terms.now) (sym left) (eq_low c.args.terms.now c.args.lowered.now c.args.t c.requires.well c.requires.ready).left

pub equality-requires-clause-right : goal.equality-requires-clause-right
equality-requires-clause-right c =
    let right : c.low_part-right.result.now ≡ part_lows c.args.lowered.now (parts_at c.args.terms.now c.args.t) 1 = c.low_part-right.ensures ∙ ap (λ ps. part_lows c.args.lowered.now ps 1) c.parts-2.ensures.parts in
    subst (Within c.args.terms.now) (sym right) (eq_low c.args.terms.now c.args.lowered.now c.args.t c.requires.well c.requires.ready).right

pub equality-requires-clause-same : goal.equality-requires-clause-same
equality-requires-clause-same c =
    let left : c.low_part-left.result.now ≡ part_lows c.args.lowered.now (parts_at c.args.terms.now c.args.t) 0 = c.low_part-left.ensures ∙ ap (λ ps. part_lows c.args.lowered.now ps 0) c.parts.ensures.parts in
    let right : c.low_part-right.result.now ≡ part_lows c.args.lowered.now (parts_at c.args.terms.now c.args.t) 1 = c.low_part-right.ensures ∙ ap (λ ps. part_lows c.args.lowered.now ps 1) c.parts-2.ensures.parts in
    ap (types_at c.args.terms.now) left ∙ (eq_low c.args.terms.now c.args.lowered.now c.args.t c.requires.well c.requires.ready).one_type ∙ ap (types_at c.args.terms.now) (sym right)

pub returns-clause-low : goal.returns-clause-low
returns-clause-low c =
    let left : c.low_part-left.result.now ≡ part_lows c.args.lowered.now (parts_at c.args.terms.now c.args.t) 0 = c.low_part-left.ensures ∙ ap (λ ps. part_lows c.args.lowered.now ps 0) c.parts.ensures.parts in
    let right : c.low_part-right.result.now ≡ part_lows c.args.lowered.now (parts_at c.args.terms.now c.args.t) 1 = c.low_part-right.ensures ∙ ap (λ ps. part_lows c.args.lowered.now ps 1) c.parts-2.ensures.parts in
    subst (IsLowOf c.args.terms.now c.equality.new.terms c.args.lowered.now c.args.t) (sym c.in_ok-low.ensures)
    (equality_low c.args.terms.now c.equality.new.terms c.args.lowered.now c.args.t c.in_ok-same.same c.requires.well c.equality.ensures.grown c.requires.ready
    (subst (λ x. IsEquality c.args.terms.now c.equality.new.terms x (part_lows c.args.lowered.now (parts_at c.args.terms.now c.args.t) 1) c.in_ok-same.same) left (subst (λ x. IsEquality c.args.terms.now c.equality.new.terms c.low_part-left.result.now x c.in_ok-same.same) right c.in_ok-same.ensures.equality)))
