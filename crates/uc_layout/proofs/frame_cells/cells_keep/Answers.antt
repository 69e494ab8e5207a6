use Rattle.std.proofs.Common.{◌≡◌, ◌<◌, Some, None, true, false, get_or, length, refl, ap, ◌∙◌, sym, rules, arith}
use Rattle.std.specs.Prelude.{slice_get}
use Rattle.uc_layout.specs.Kept.{lent}
use Rattle.uc_layout.proofs.Sorting.{list_is}
use Rattle.uc_layout.proofs.Keeping.{old_past, new_past, cells_past, left_more, keeps_here}
use Rattle.uc_layout.proofs.frame_cells.cells_keep.Goals as goal

pub returns-in_default : goal.returns-in_default
returns-in_default c = λ written parts.
    let none : None ≡ slice_get c.args.new.now c.loop-number.number = search rules in
    (λ _. new_past written c.args.cells.now c.args.old.now c.args.new.now c.loop-number.number (c.loop-number.invariant written parts) none, λ _. refl)

pub returns-in_default-2 : goal.returns-in_default-2
returns-in_default-2 c = λ written parts.
    let none : None ≡ slice_get c.args.old.now c.loop-number.number = search rules in
    (λ _. old_past written c.args.cells.now c.args.old.now c.args.new.now c.loop-number.number (c.loop-number.invariant written parts) none, λ _. refl)

pub returns-then-not-keeps : goal.returns-then-not-keeps
returns-then-not-keeps c = λ written parts.
    let failed : c.in_ok-keeps.keeps ≡ false = search rules in
    let before : Some c.in-Some-Some.before.now ≡ slice_get c.args.old.now c.loop-number.number = search rules in
    let after : Some c.in-Some-Some.after.now ≡ slice_get c.args.new.now c.loop-number.number = search rules in
    let many : c.loop-number.number < length c.args.parts.now = omega arith in
    let held : c.as_slice-inside.result.now ≡ (get_or c.args.parts.now c.loop-number.number c.index-parts-number.result).items = search rules in
    let inside = ap lent (held ∙ sym (list_is c.args.parts.now c.loop-number.number c.index-parts-number.result many)) ∙ parts c.loop-number.number c.loop-number-test.true in (
      λ h. let no : ⊥ = cc in absurd no,
      λ every. sym failed ∙ (c.in_ok-keeps.ensures c.loop-number.number written inside).1 (keeps_here written c.args.cells.now c.args.old.now c.args.new.now c.loop-number.number (c.loop-number.invariant written parts) c.index-cells-number.result c.loop-number-test.true c.index-cells-number.is _ _ before after every),
    )

pub loop-number-preserved : goal.loop-number-preserved
loop-number-preserved c = λ written parts.
    let kept : c.in_ok-keeps.keeps ≡ true = search rules in
    let before : Some c.in-Some-Some.before.now ≡ slice_get c.args.old.now c.loop-number.number = search rules in
    let after : Some c.in-Some-Some.after.now ≡ slice_get c.args.new.now c.loop-number.number = search rules in
    let many : c.loop-number.number < length c.args.parts.now = omega arith in
    let held : c.as_slice-inside.result.now ≡ (get_or c.args.parts.now c.loop-number.number c.index-parts-number.result).items = search rules in
    let inside = ap lent (held ∙ sym (list_is c.args.parts.now c.loop-number.number c.index-parts-number.result many)) ∙ parts c.loop-number.number c.loop-number-test.true in
    left_more written c.args.cells.now c.args.old.now c.args.new.now c.loop-number.number (c.loop-number.invariant written parts) c.index-cells-number.result c.loop-number-test.true c.index-cells-number.is _ _ before after
    ((c.in_ok-keeps.ensures c.loop-number.number written inside).0 kept)

pub returns : goal.returns
returns c = λ written parts. (λ _. cells_past written c.args.cells.now c.args.old.now c.args.new.now c.loop-number.number (c.loop-number.invariant written parts) c.loop-number-test.false, λ _. refl)
