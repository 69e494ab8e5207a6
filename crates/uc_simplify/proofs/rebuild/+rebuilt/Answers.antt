use Rattle.std.specs.Prelude.{IfSome}
use Rattle.std.proofs.Common.{◌≡◌, ◌<◌, [], ◌∷◌, length, slice_index, All, subst, arith, rules, sym, ap}
use Rattle.uc_ops.specs.declared.op.Op.TheVariants.{Eq as Equal}
use Rattle.uc_ops.specs.Typing.{Suits, types_at}
use Rattle.uc_simplify_steps.specs.Steps.{IsRight}
use Rattle.uc_simplify.specs.Simplified.{Rebuilds}
use Rattle.uc_simplify.specs.Records.{AreRecords}
use Rattle.uc_simplify.proofs.Standing.{Grows-length}
use Rattle.uc_simplify.proofs.Rebuilding.{known_rebuilds, call_rebuilds}
use Rattle.uc_simplify.proofs.Compared.{Comparing-start, Comparing-push, Comparing-end, alike_length, pair_read, pair_there, at_there, beside_suits, compared, equal_there, equal_suits, call_records}
use Rattle.uc_simplify.proofs.rebuild.+rebuilt.Goals as goal

pub rebuilt-returns-in-Known-clause-rebuilt : goal.rebuilt-returns-in-Known-clause-rebuilt
rebuilt-returns-in-Known-clause-rebuilt t c =
    known_rebuilds c.args.terms.now c.in-Known.t c.args.op c.args.parts (subst (IsRight c.args.terms.now c.args.op c.args.parts) c.in-Known.is c.in_ok-t.ensures)

pub rebuilt-returns-in-Other-clause-rebuilt : goal.rebuilt-returns-in-Other-clause-rebuilt
rebuilt-returns-in-Other-clause-rebuilt t c =
    let right = subst (IsRight c.args.terms.now c.args.op c.args.parts) c.in-Other.is c.in_ok-t.ensures in
    call_rebuilds c.made.new.terms c.args.terms.now c.made.result c.in-Other.op c.args.op c.in-Other.parts c.args.parts c.as_slice.result.now c.as_slice.ensures c.made.ensures.rebuilt right

pub made-equalities-requires : goal.made-equalities-requires
made-equalities-requires t c =
    let x = subst (λ o. IfSome o (λ r. AreRecords c.args.terms.now c.args.op.now c.args.parts.now r.0.items r.1.items)) c.in-Some.is c.in_ok-left.ensures in
    let z = compared c.args.terms.now c.args.op.now c.args.parts.now c.in-Some.left.items c.in-Some.right.items x c.requires.suits in (
      omega arith,
      (rw c.deref.ensures.value x.first.applied.there, (rw c.deref-2.ensures.value x.second.applied.there, rw (c.deref.ensures.value, c.deref-2.ensures.value) z.alike)),
    )

pub made-put-requires-clause-there : goal.made-put-requires-clause-there
made-put-requires-clause-there t c = rw c.from_vec.ensures (equal_there c.equalities.new.terms c.args.terms.now c.in_ok-equal.equal.items c.deref.result.now c.deref-2.result.now c.in_ok-equal.ensures.equal)

pub made-put-requires-clause-suits : goal.made-put-requires-clause-suits
made-put-requires-clause-suits t c =
    let x = subst (λ o. IfSome o (λ r. AreRecords c.args.terms.now c.args.op.now c.args.parts.now r.0.items r.1.items)) c.in-Some.is c.in_ok-left.ensures in
    rw c.from_vec.ensures (equal_suits c.equalities.new.terms c.args.terms.now c.in_ok-equal.equal.items c.deref.result.now c.deref-2.result.now (omega (arith, x.some, ap length c.deref.ensures.value)) c.in_ok-equal.ensures.equal)

pub made-returns-clause-rebuilt : goal.made-returns-clause-rebuilt
made-returns-clause-rebuilt t c =
    let x = subst (λ o. IfSome o (λ r. AreRecords c.args.terms.now c.args.op.now c.args.parts.now r.0.items r.1.items)) c.in-Some.is c.in_ok-left.ensures in
    call_records c.args.terms.now c.equalities.new.terms c.put.new.terms c.args.op.now c.args.parts.now c.in-Some.left.items c.in-Some.right.items c.in_ok-equal.equal.items c.deref.result.now c.deref-2.result.now c.from_vec.result c.put.result
    c.requires.suits x c.deref.ensures.value c.deref-2.ensures.value c.from_vec.ensures c.in_ok-equal.ensures.equal c.put.ensures.rebuilt

pub equalities-rebuilt-requires : goal.equalities-rebuilt-requires
equalities-rebuilt-requires t c =
    let within : c.loop-place.place < length c.args.left.now = omega (arith, c.loop-place-test.true) in
    let beside : c.loop-place.place < length c.args.right.now = omega (arith, within, alike_length c.args.terms.now c.args.left.now c.args.right.now c.requires.alike) in
    let grown = Grows-length c.args.terms.now c.loop-place.terms c.loop-place.invariant.grown in
    let x = slice_index c.args.left.now c.loop-place.place in
    let y = slice_index c.args.right.now c.loop-place.place in
    let pair : x ∷ y ∷ [] ≡ c.in_ok-pair.pair = sym (pair_read c.args.left.now c.args.right.now c.in_ok-pair.pair c.loop-place.place c.index-left-place.result c.index-right-place.result within beside c.index-left-place.is c.index-right-place.is c.in_ok-pair.ensures) in
    let there = pair_there c.loop-place.terms x y (omega (arith, grown, at_there c.args.terms.now c.args.left.now c.loop-place.place within c.requires.left)) (omega (arith, grown, at_there c.args.terms.now c.args.right.now c.loop-place.place beside c.requires.right)) in
    let suits = beside_suits c.args.terms.now c.loop-place.terms c.args.left.now c.args.right.now c.loop-place.place c.loop-place.invariant.grown within c.requires.left c.requires.right c.requires.alike in
    (omega arith, (subst (All (λ p. p < length c.loop-place.terms)) pair there, subst (λ ps. Suits Equal (types_at c.loop-place.terms ps)) pair suits))

pub equalities-returns-clause-equal : goal.equalities-returns-clause-equal
equalities-returns-clause-equal t c =
    Comparing-end c.args.terms.now c.loop-place.terms c.loop-place.equal.items c.args.left.now c.args.right.now c.loop-place.place (omega (arith, c.loop-place.auto.place-end)) (omega (arith, c.loop-place-test.false)) c.requires.alike c.loop-place.invariant

pub equalities-loop-place-init : goal.equalities-loop-place-init
equalities-loop-place-init t c = rw c.new-equal.ensures.items (Comparing-start c.args.terms.now c.args.left.now c.args.right.now c.len-count.ensures.well)

pub equalities-loop-place-preserved : goal.equalities-loop-place-preserved
equalities-loop-place-preserved t c =
    let within : c.loop-place.place < length c.args.left.now = omega (arith, c.loop-place-test.true) in
    let beside : c.loop-place.place < length c.args.right.now = omega (arith, within, alike_length c.args.terms.now c.args.left.now c.args.right.now c.requires.alike) in
    let x = slice_index c.args.left.now c.loop-place.place in
    let y = slice_index c.args.right.now c.loop-place.place in
    let pair : c.in_ok-pair.pair ≡ x ∷ y ∷ [] = pair_read c.args.left.now c.args.right.now c.in_ok-pair.pair c.loop-place.place c.index-left-place.result c.index-right-place.result within beside c.index-left-place.is c.index-right-place.is c.in_ok-pair.ensures in
    Comparing-push c.args.terms.now c.loop-place.terms c.rebuilt.new.terms c.loop-place.equal.items c.push.new.self.items c.args.left.now c.args.right.now c.loop-place.place c.in_ok-rebuilt.field-0
    c.len-count.ensures.well c.rebuilt.ensures.well c.rebuilt.ensures.grown (at_there c.args.terms.now c.args.left.now c.loop-place.place within c.requires.left) (at_there c.args.terms.now c.args.right.now c.loop-place.place beside c.requires.right)
    (subst (Rebuilds c.rebuilt.new.terms c.in_ok-rebuilt.field-0 c.loop-place.terms Equal) pair c.in_ok-rebuilt.ensures.rebuilt) (search rules) c.loop-place.invariant
