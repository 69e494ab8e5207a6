use Rattle.std.proofs.Common.{◌≡◌, ◌+◌, ◌-◌, sym, subst, arith, nat_eq}
use Rattle.indexmap.specs.IndexMap.{get}
use Rattle.uc_compose.specs.Below.{AreBelow}
use Rattle.uc_compose.proofs.Copied.{Transferred, transferred_start, transferred_turn, listed_there, parts_transferred, roots_known, roots_answered, roots_few}
use Rattle.uc_compose.proofs.transferring.transfer.Goals as goal

pub walk-init : goal.walk-init
walk-init c = transferred_start c.args.shared c.args.by c.args.from.now c.args.into.now c.as_slice-terms.result.now (get nat_eq c.new-copies.result) _ c.len-begin.ensures.well (omega arith)

pub transferred-requires-clause-there : goal.transferred-requires-clause-there
transferred-requires-clause-there c =
    let below = subst (AreBelow c.args.from.now c.args.roots.now) (sym c.as_slice-terms.ensures) c.in_ok-listed.ensures in
    listed_there c.args.from.now c.args.roots.now c.as_slice-terms.result.now (c.walk.place - 1) c.index-terms-place.result c.len-count.ensures.well c.requires.there below (omega (arith, c.walk-test.true, c.walk.invariant.within)) c.index-terms-place.is

pub transferred-requires-clause-parts : goal.transferred-requires-clause-parts
transferred-requires-clause-parts c =
    let below = subst (AreBelow c.args.from.now c.args.roots.now) (sym c.as_slice-terms.ensures) c.in_ok-listed.ensures in
    let next : c.walk.place ≡ (c.walk.place - 1) + 1 = omega (arith, c.walk-test.true) in
    parts_transferred c.args.shared c.args.by c.args.from.now c.args.into.now c.walk.into c.args.roots.now c.as_slice-terms.result.now (get nat_eq c.walk.copies) (c.walk.place - 1) c.index-terms-place.result
    c.len-count.ensures.well c.requires.there below (omega (arith, c.walk-test.true, c.walk.invariant.within)) c.index-terms-place.is
    (subst (Transferred c.args.shared c.args.by c.args.from.now c.args.into.now c.walk.into c.as_slice-terms.result.now (get nat_eq c.walk.copies)) next c.walk.invariant)

pub walk-preserved : goal.walk-preserved
walk-preserved c =
    let next : c.walk.place ≡ (c.walk.place - 1) + 1 = omega (arith, c.walk-test.true) in
    transferred_turn c.args.shared c.args.by c.args.from.now c.args.into.now c.walk.into c.transferred.new.into c.as_slice-terms.result.now (get nat_eq c.walk.copies) (get nat_eq c.insert.new.self) (c.walk.place - 1)
    c.index-terms-place.result c.in_ok-copy.copy c.transferred.ensures.well c.transferred.ensures.grown c.transferred.ensures.short (omega (arith, c.walk-test.true, c.walk.invariant.within)) c.index-terms-place.is
    c.in_ok-copy.ensures.copy c.in_ok-insert.ensures.updates.0
    (subst (Transferred c.args.shared c.args.by c.args.from.now c.args.into.now c.walk.into c.as_slice-terms.result.now (get nat_eq c.walk.copies)) next c.walk.invariant)

pub copies_of-requires : goal.copies_of-requires
copies_of-requires c =
    let below = subst (AreBelow c.args.from.now c.args.roots.now) (sym c.as_slice-terms.ensures) c.in_ok-listed.ensures in
    roots_known c.args.shared c.args.by c.args.from.now c.args.into.now c.walk.into c.args.roots.now c.as_slice-terms.result.now (get nat_eq c.walk.copies) c.walk.place below (omega (arith, c.walk-test.false)) c.walk.invariant

pub returns-clause-copies : goal.returns-clause-copies
returns-clause-copies c =
    let below = subst (AreBelow c.args.from.now c.args.roots.now) (sym c.as_slice-terms.ensures) c.in_ok-listed.ensures in
    roots_answered c.args.shared c.args.by c.args.from.now c.args.into.now c.walk.into c.args.roots.now c.as_slice-terms.result.now (get nat_eq c.walk.copies) c.walk.place c.copies_of.result below
    (omega (arith, c.walk-test.false)) c.walk.invariant c.copies_of.ensures

pub returns-clause-few : goal.returns-clause-few
returns-clause-few c =
    let below = subst (AreBelow c.args.from.now c.args.roots.now) (sym c.as_slice-terms.ensures) c.in_ok-listed.ensures in
    roots_few c.args.shared c.args.by c.args.from.now c.args.into.now c.walk.into c.args.roots.now c.as_slice-terms.result.now (get nat_eq c.walk.copies) c.walk.place c.copies_of.result below (omega (arith, c.walk-test.false)) c.walk.invariant
