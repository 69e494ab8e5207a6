use Rattle.std.proofs.Common.{rules, ◌≡◌, ◌<◌, ◌≤◌, ◌+◌, ◌-◌, replicate, length, false, sym, ◌∙◌, arith, subst, All}
use Rattle.std.proofs.lemmas.List.{length-replicate, get_or_read}
use Rattle.uc_terms.specs.Subterms.{Marked}
use Rattle.uc_terms.specs.Marks.{MarksMore}
use Rattle.uc_terms.proofs.Grown.{parts-node}
use Rattle.uc_terms.proofs.Walk.{Walking, Walking-start, Walking-mark, Walking-end, none_marked}
use Rattle.uc_terms.proofs.marks.subterms.Goals as goal

pub walk-init : goal.walk-init
walk-init c =
    let n = c.span-count.result in
    let items : c.in_ok-marks.marks.items ≡ replicate n false = search rules in
    let small : length (replicate n false) ≤ length c.args.terms.now = omega (arith, length-replicate n false, c.span-count.ensures.least (length c.args.terms.now) c.requires) in
    subst (Walking c.args.terms.now c.args.roots.now c.mark_all.new.marks.items) (length-replicate n false)
    (Walking-start c.args.terms.now c.args.roots.now (replicate n false) c.mark_all.new.marks.items small (none_marked n)
    (subst (λ xs. MarksMore xs c.mark_all.new.marks.items c.args.roots.now) items c.mark_all.ensures))

pub mark_all-requires-then-index : goal.mark_all-requires-then-index
mark_all-requires-then-index c =
    let fine = c.node.ensures.well (c.walk.place - 1) c.node.result.now c.node.ensures.node in
    rw c.as_slice.ensures (λ k d l. omega (arith, fine.before k d l, c.walk.invariant.within))

pub walk-preserved-then-index : goal.walk-preserved-then-index
walk-preserved-then-index c =
    let k = c.walk.place - 1 in
    let fine = c.node.ensures.well k c.node.result.now c.node.ensures.node in
    let same = parts-node c.args.terms.now k c.node.result.now c.node.ensures.node in
    let within : k < length c.walk.marks.items = omega (arith, c.walk.invariant.within) in
    let marked : Marked c.walk.marks.items k = sym (get_or_read c.walk.marks.items k c.index.result.now within c.index.ensures false) ∙ c.if-index.true in
    let next : c.walk.place ≡ k + 1 = omega arith in
    Walking-mark c.args.terms.now c.args.roots.now c.walk.marks.items c.mark_all-then-index.new.marks.items k marked
    (subst (MarksMore c.walk.marks.items c.mark_all-then-index.new.marks.items) (c.as_slice.ensures ∙ sym same) c.mark_all-then-index.ensures)
    (subst (All (λ p. p < k)) (sym same) fine.before)
    (subst (Walking c.args.terms.now c.args.roots.now c.walk.marks.items) next c.walk.invariant)

pub returns : goal.returns
returns c =
    let done : c.walk.place ≡ 0 = omega arith in
    Walking-end c.args.terms.now c.args.roots.now c.walk.marks.items (subst (Walking c.args.terms.now c.args.roots.now c.walk.marks.items) done c.walk.invariant)
