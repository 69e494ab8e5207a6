use Rattle.std.proofs.Common.{sym, ◌∙◌, arith}
use Rattle.uc_values.proofs.Agreement.{same-unlike_left, same-unlike_right, same_parts-end, same-arrays, first_fails, second_fails, third_holds, last_decides}
use Rattle.uc_values.proofs.sameness.+same_values.Goals as goal

pub same_parts-returns : goal.same_parts-returns
same_parts-returns t c =
    sym (c.loop-place.invariant ∙ same_parts-end c.args.fields.now c.args.parts.now c.args.others.now c.loop-place.place (omega (arith, c.loop-place-test.false, c.min-count.ensures, c.min.ensures)))

pub same_values-returns-in_default-2 : goal.same_values-returns-in_default-2
same_values-returns-in_default-2 t c = same-unlike_right c.args.ty.now c.in-Rec.fields c.args.left.now c.args.right.now c.in-Rec.is c.in_default-2.not-Rec-1

pub same_values-returns-in_default-2-2 : goal.same_values-returns-in_default-2-2
same_values-returns-in_default-2-2 t c = same-unlike_left c.args.ty.now c.in-Rec.fields c.args.left.now c.args.right.now c.in-Rec.is c.in_default-2.not-Rec-0

pub same_values-returns-then-not-same_at_unlisted : goal.same_values-returns-then-not-same_at_unlisted
same_values-returns-then-not-same_at_unlisted t c =
    let a = c.in-Arr-Arr in
    let first = simp (c.get.ensures, c.as_slice-in-Arr.ensures, c.as_slice-in-Arr-2.ensures) at c.same_at_unlisted.ensures in
    first_fails _ _ _ (sym first ∙ c.if-not-same_at_unlisted.true) ∙ sym (same-arrays c.args.ty.now c.in-Arr.index c.in-Arr.element c.args.left.now c.args.right.now a.default a.other a.rows a.others c.in-Arr.is a.is-0 a.is-1)

pub same_values-returns-then-not-same_at : goal.same_values-returns-then-not-same_at
same_values-returns-then-not-same_at t c =
    let a = c.in-Arr-Arr in
    let first = simp (c.get.ensures, c.as_slice-in-Arr.ensures, c.as_slice-in-Arr-2.ensures) at c.same_at_unlisted.ensures in
    let second = simp (c.get-in-Arr.ensures, c.as_slice-in-Arr-3.ensures) at c.same_at.ensures in
    second_fails _ _ _ (sym first ∙ c.if-not-same_at_unlisted.false) (sym second ∙ c.if-not-same_at.true) ∙ sym (same-arrays c.args.ty.now c.in-Arr.index c.in-Arr.element c.args.left.now c.args.right.now a.default a.other a.rows a.others c.in-Arr.is a.is-0 a.is-1)

pub same_values-returns-then-are_all : goal.same_values-returns-then-are_all
same_values-returns-then-are_all t c =
    let a = c.in-Arr-Arr in
    let first = simp (c.get.ensures, c.as_slice-in-Arr.ensures, c.as_slice-in-Arr-2.ensures) at c.same_at_unlisted.ensures in
    let second = simp (c.get-in-Arr.ensures, c.as_slice-in-Arr-3.ensures) at c.same_at.ensures in
    let third = simp (c.get-in-Arr-2.ensures, c.count_joined.ensures, c.as_slice-in-Arr-4.ensures, c.as_slice-in-Arr-5.ensures) at c.are_all.ensures in
    third_holds _ _ _ _ (sym first ∙ c.if-not-same_at_unlisted.false) (sym second ∙ c.if-not-same_at.false) (sym third ∙ c.if-are_all.true) ∙ sym (same-arrays c.args.ty.now c.in-Arr.index c.in-Arr.element c.args.left.now c.args.right.now a.default a.other a.rows a.others c.in-Arr.is a.is-0 a.is-1)

pub same_values-returns-else-are_all : goal.same_values-returns-else-are_all
same_values-returns-else-are_all t c =
    let a = c.in-Arr-Arr in
    let first = simp (c.get.ensures, c.as_slice-in-Arr.ensures, c.as_slice-in-Arr-2.ensures) at c.same_at_unlisted.ensures in
    let second = simp (c.get-in-Arr.ensures, c.as_slice-in-Arr-3.ensures) at c.same_at.ensures in
    let third = simp (c.get-in-Arr-2.ensures, c.count_joined.ensures, c.as_slice-in-Arr-4.ensures, c.as_slice-in-Arr-5.ensures) at c.are_all.ensures in
    let last = simp (c.get-in-Arr-3.ensures, c.get-in-Arr-4.ensures, c.get-in-Arr-5.ensures) at c.same_values.ensures in
    last ∙ last_decides _ _ _ _ (sym first ∙ c.if-not-same_at_unlisted.false) (sym second ∙ c.if-not-same_at.false) (sym third ∙ c.if-are_all.false) ∙ sym (same-arrays c.args.ty.now c.in-Arr.index c.in-Arr.element c.args.left.now c.args.right.now a.default a.other a.rows a.others c.in-Arr.is a.is-0 a.is-1)
