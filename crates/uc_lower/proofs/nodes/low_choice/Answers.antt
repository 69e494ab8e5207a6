use Rattle.std.proofs.Common.{◌≡◌, ◌∙◌, sym, ap, subst, arith, length, get_or}
use Rattle.uc_ops.specs.Typing.{types_at}
use Rattle.uc_terms.specs.Tables.{parts_at}
use Rattle.uc_lower.specs.Made.{Within}
use Rattle.uc_lower.specs.Steps.{part_lows}
use Rattle.uc_lower.proofs.Chosen.{choice_parts, condition_length, one_condition, choice_made}
use Rattle.uc_lower.proofs.nodes.low_choice.Goals as goal

pub bounds-low_part-0 : goal.bounds-low_part-0
bounds-low_part-0 c =
    let first : c.low_part.result.now ≡ part_lows c.args.lowered.now (parts_at c.args.terms.now c.args.t) 0 = c.low_part.ensures ∙ ap (λ ps. part_lows c.args.lowered.now ps 0) c.parts.ensures.parts in
    let parts = choice_parts c.args.terms.now c.args.lowered.now c.args.t c.requires.well c.requires.ready in
    omega (arith, ap length first, condition_length c.args.terms.now (part_lows c.args.lowered.now (parts_at c.args.terms.now c.args.t) 0) parts.boolean)

pub chosen-requires-clause-condition : goal.chosen-requires-clause-condition
chosen-requires-clause-condition c =
    let first : c.low_part.result.now ≡ part_lows c.args.lowered.now (parts_at c.args.terms.now c.args.t) 0 = c.low_part.ensures ∙ ap (λ ps. part_lows c.args.lowered.now ps 0) c.parts.ensures.parts in
    let one : c.index-low_part-0.result ≡ get_or (part_lows c.args.lowered.now (parts_at c.args.terms.now c.args.t) 0) 0 c.index-low_part-0.result = c.index-low_part-0.is ∙ ap (λ us. get_or us 0 c.index-low_part-0.result) first in
    let parts = choice_parts c.args.terms.now c.args.lowered.now c.args.t c.requires.well c.requires.ready in
    (one_condition c.args.terms.now (part_lows c.args.lowered.now (parts_at c.args.terms.now c.args.t) 0) c.index-low_part-0.result parts.condition parts.boolean one).there

pub chosen-requires-clause-boolean : goal.chosen-requires-clause-boolean
chosen-requires-clause-boolean c =
    let first : c.low_part.result.now ≡ part_lows c.args.lowered.now (parts_at c.args.terms.now c.args.t) 0 = c.low_part.ensures ∙ ap (λ ps. part_lows c.args.lowered.now ps 0) c.parts.ensures.parts in
    let one : c.index-low_part-0.result ≡ get_or (part_lows c.args.lowered.now (parts_at c.args.terms.now c.args.t) 0) 0 c.index-low_part-0.result = c.index-low_part-0.is ∙ ap (λ us. get_or us 0 c.index-low_part-0.result) first in
    let parts = choice_parts c.args.terms.now c.args.lowered.now c.args.t c.requires.well c.requires.ready in
    (one_condition c.args.terms.now (part_lows c.args.lowered.now (parts_at c.args.terms.now c.args.t) 0) c.index-low_part-0.result parts.condition parts.boolean one).boolean

pub chosen-requires-clause-left : goal.chosen-requires-clause-left
chosen-requires-clause-left c =
    let left : c.low_part-left.result.now ≡ part_lows c.args.lowered.now (parts_at c.args.terms.now c.args.t) 1 = c.low_part-left.ensures ∙ ap (λ ps. part_lows c.args.lowered.now ps 1) c.parts-2.ensures.parts in
    let parts = choice_parts c.args.terms.now c.args.lowered.now c.args.t c.requires.well c.requires.ready in
    subst (Within c.args.terms.now) (sym left) parts.left

pub chosen-requires-clause-right : goal.chosen-requires-clause-right
chosen-requires-clause-right c =
    let right : c.low_part-right.result.now ≡ part_lows c.args.lowered.now (parts_at c.args.terms.now c.args.t) 2 = c.low_part-right.ensures ∙ ap (λ ps. part_lows c.args.lowered.now ps 2) c.parts-3.ensures.parts in
    let parts = choice_parts c.args.terms.now c.args.lowered.now c.args.t c.requires.well c.requires.ready in
    subst (Within c.args.terms.now) (sym right) parts.right

pub chosen-requires-clause-same : goal.chosen-requires-clause-same
chosen-requires-clause-same c =
    let left : c.low_part-left.result.now ≡ part_lows c.args.lowered.now (parts_at c.args.terms.now c.args.t) 1 = c.low_part-left.ensures ∙ ap (λ ps. part_lows c.args.lowered.now ps 1) c.parts-2.ensures.parts in
    let right : c.low_part-right.result.now ≡ part_lows c.args.lowered.now (parts_at c.args.terms.now c.args.t) 2 = c.low_part-right.ensures ∙ ap (λ ps. part_lows c.args.lowered.now ps 2) c.parts-3.ensures.parts in
    let parts = choice_parts c.args.terms.now c.args.lowered.now c.args.t c.requires.well c.requires.ready in
    ap (types_at c.args.terms.now) left ∙ parts.one_type ∙ ap (types_at c.args.terms.now) (sym right)

pub returns-clause-low : goal.returns-clause-low
returns-clause-low c =
    let first : c.low_part.result.now ≡ part_lows c.args.lowered.now (parts_at c.args.terms.now c.args.t) 0 = c.low_part.ensures ∙ ap (λ ps. part_lows c.args.lowered.now ps 0) c.parts.ensures.parts in
    let one : c.index-low_part-0.result ≡ get_or (part_lows c.args.lowered.now (parts_at c.args.terms.now c.args.t) 0) 0 c.index-low_part-0.result = c.index-low_part-0.is ∙ ap (λ us. get_or us 0 c.index-low_part-0.result) first in
    let left : c.low_part-left.result.now ≡ part_lows c.args.lowered.now (parts_at c.args.terms.now c.args.t) 1 = c.low_part-left.ensures ∙ ap (λ ps. part_lows c.args.lowered.now ps 1) c.parts-2.ensures.parts in
    let right : c.low_part-right.result.now ≡ part_lows c.args.lowered.now (parts_at c.args.terms.now c.args.t) 2 = c.low_part-right.ensures ∙ ap (λ ps. part_lows c.args.lowered.now ps 2) c.parts-3.ensures.parts in
    choice_made c.args.terms.now c.chosen.new.terms c.args.lowered.now c.args.t c.index-low_part-0.result c.low_part-left.result.now c.low_part-right.result.now c.in_ok-low.low.items c.requires.well c.chosen.ensures.grown c.requires.ready one left right c.in_ok-low.ensures.chosen
