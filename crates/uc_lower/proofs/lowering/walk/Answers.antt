use Rattle.std.proofs.Common.{◌≡◌, ◌<◌, ◌+◌, [], ◌∙◌, false, sym, ap, subst, arith, length, get_or, slice_index_or}
use Rattle.std.proofs.lemmas.List.{get_or_read}
use Rattle.std.proofs.lemmas.List.Elements.{All-cons, All-nil}
use Rattle.uc_lower.specs.Steps.{lows, IsLowerable}
use Rattle.uc_lower.specs.Walk.{IsStep, IsFresh}
use Rattle.uc_lower.specs.Lowering.{CorrespondBy, IsMapOf}
use Rattle.uc_lower.proofs.Growing.{grows_not, grows_on}
use Rattle.uc_lower.proofs.Walking.{Walked}
use Rattle.uc_lower.proofs.Stepping.{walked_start, walked_step, lowerable, place_bits, place_in}
use Rattle.uc_lower.proofs.Ending.{Ended, ended, RootLow, root_some, root_low, corresponds, mapped, evenly, lowered_term, no_more_bits}
use Rattle.uc_lower.proofs.lowering.walk.Goals as goal

pub subterms-requires : goal.subterms-requires
subterms-requires c = All-cons (λ x. x < length c.args.terms.now) c.args.t [] c.requires.there (All-nil (λ x. x < length c.args.terms.now))

pub returns-in_err-marks-clause-grown : goal.returns-in_err-marks-clause-grown
returns-in_err-marks-clause-grown c = grows_not c.args.terms.now c.nodes-well_typed.ensures.well

pub returns-in_err-next-clause-grown : goal.returns-in_err-next-clause-grown
returns-in_err-next-clause-grown c = grows_not c.args.terms.now c.nodes-well_typed.ensures.well

pub fresh-requires : goal.fresh-requires
fresh-requires c = omega (arith, ap length c.as_slice.ensures.value, c.in_ok-marks.ensures.within)

pub loop-place-init : goal.loop-place-init
loop-place-init c =
    rw (c.new-lowered.ensures.items, c.new-pairs.ensures.items, c.new-conditions.ensures.items) (walked_start c.args.terms.now c.args.t c.in_ok-marks.marks.items c.in_ok-next.next c.nodes-well_typed.ensures.well)

pub low_at-requires-clause-well : goal.low_at-requires-clause-well
low_at-requires-clause-well c = c.loop-place.invariant.grown.well

pub low_at-requires-clause-there : goal.low_at-requires-clause-there
low_at-requires-clause-there c =
    let within : c.loop-place.place < length c.in_ok-marks.marks.items = omega (arith, c.loop-place-test.true, c.len-place-end.ensures, c.in_ok-marks.marks.ok.0) in
    place_in c.args.terms.now c.args.t c.in_ok-marks.marks.items c.in_ok-next.next c.loop-place.terms c.loop-place.lowered.items c.loop-place.pairs.items c.loop-place.conditions.items c.loop-place.next c.loop-place.place c.loop-place.invariant c.in_ok-marks.ensures within

pub low_at-requires-clause-bits : goal.low_at-requires-clause-bits
low_at-requires-clause-bits c =
    let within : c.loop-place.place < length c.in_ok-marks.marks.items = omega (arith, c.loop-place-test.true, c.len-place-end.ensures, c.in_ok-marks.marks.ok.0) in
    let mark : c.index.result.now ≡ slice_index_or c.in_ok-marks.marks.items c.loop-place.place false = get_or_read c.in_ok-marks.marks.items c.loop-place.place c.index.result.now within c.index.ensures false in
    λ mk. place_bits c.args.terms.now c.args.t c.in_ok-marks.marks.items c.in_ok-next.next c.loop-place.terms c.loop-place.lowered.items c.loop-place.pairs.items c.loop-place.conditions.items c.loop-place.next c.loop-place.place c.loop-place.invariant c.in_ok-marks.ensures c.requires.finite within (sym mark ∙ mk)

pub low_at-requires-clause-lowerable : goal.low_at-requires-clause-lowerable
low_at-requires-clause-lowerable c =
    let within : c.loop-place.place < length c.in_ok-marks.marks.items = omega (arith, c.loop-place-test.true, c.len-place-end.ensures, c.in_ok-marks.marks.ok.0) in
    let mark : c.index.result.now ≡ slice_index_or c.in_ok-marks.marks.items c.loop-place.place false = get_or_read c.in_ok-marks.marks.items c.loop-place.place c.index.result.now within c.index.ensures false in
    λ mk other. subst (λ x. IsLowerable c.loop-place.terms x c.loop-place.place) (sym c.as_slice-in-loop-place.ensures.value)
    (lowerable c.args.terms.now c.args.t c.in_ok-marks.marks.items c.in_ok-next.next c.loop-place.terms c.loop-place.lowered.items c.loop-place.pairs.items c.loop-place.conditions.items c.loop-place.next c.loop-place.place c.loop-place.invariant c.nodes-well_typed.ensures.well c.in_ok-marks.ensures c.requires.finite (omega (arith, within, c.in_ok-marks.ensures.within)) (sym mark ∙ mk) other)

pub low_at-requires-clause-conditions : goal.low_at-requires-clause-conditions
low_at-requires-clause-conditions c = c.loop-place.invariant.within

pub low_at-requires-clause-truths : goal.low_at-requires-clause-truths
low_at-requires-clause-truths c = c.loop-place.invariant.truths

pub loop-place-preserved : goal.loop-place-preserved
loop-place-preserved c =
    let within : c.loop-place.place < length c.in_ok-marks.marks.items = omega (arith, c.loop-place-test.true, c.len-place-end.ensures, c.in_ok-marks.marks.ok.0) in
    let mark : c.index.result.now ≡ slice_index_or c.in_ok-marks.marks.items c.loop-place.place false = get_or_read c.in_ok-marks.marks.items c.loop-place.place c.index.result.now within c.index.ensures false in
    let number = subst (λ ms. IsFresh c.args.terms.now ms (length ms) c.in_ok-next.next) c.as_slice.ensures.value c.in_ok-next.ensures in
    let step = subst (λ x. IsStep c.loop-place.terms c.low_at.new.terms x c.index.result.now c.loop-place.place c.in_ok-low.low c.loop-place.next c.low_at.new.next c.loop-place.pairs.items c.low_at.new.pairs.items c.loop-place.conditions.items c.low_at.new.conditions.items) c.as_slice-in-loop-place.ensures.value c.in_ok-low.ensures.step in
    subst (λ x. Walked c.args.terms.now c.args.t c.in_ok-marks.marks.items c.in_ok-next.next c.low_at.new.terms x c.low_at.new.pairs.items c.low_at.new.conditions.items c.low_at.new.next (c.loop-place.place + 1)) (sym c.in_ok-push.ensures.items)
    (walked_step c.args.terms.now c.args.t c.in_ok-marks.marks.items c.in_ok-next.next c.loop-place.terms c.low_at.new.terms c.loop-place.lowered.items c.loop-place.pairs.items c.low_at.new.pairs.items c.loop-place.conditions.items c.low_at.new.conditions.items c.in_ok-low.low c.loop-place.next c.low_at.new.next c.loop-place.place c.index.result.now
    c.loop-place.invariant c.requires.even c.nodes-well_typed.ensures.well c.in_ok-marks.ensures c.requires.finite number within mark c.low_at.ensures.grown step)

pub bounds-low_of-0 : goal.bounds-low_of-0
bounds-low_of-0 c =
    let end : Ended c.args.terms.now c.args.t c.in_ok-marks.marks.items c.in_ok-next.next c.loop-place.terms c.loop-place.lowered.items c.loop-place.pairs.items c.loop-place.conditions.items c.loop-place.next = ended c.args.terms.now c.args.t c.in_ok-marks.marks.items c.in_ok-next.next c.loop-place.terms c.loop-place.lowered.items c.loop-place.pairs.items c.loop-place.conditions.items c.loop-place.next c.loop-place.place c.loop-place.invariant (omega (arith, c.loop-place-test.false, c.loop-place.auto.place-end, c.len-place-end.ensures, c.in_ok-marks.marks.ok.0)) c.nodes-well_typed.ensures.well c.nodes-well_typed.ensures.shared c.requires.there c.requires.boolean c.requires.even c.requires.finite c.in_ok-marks.ensures in
    let low : c.low_of.result.now ≡ lows c.loop-place.lowered.items c.args.t = c.low_of.ensures ∙ ap (λ x. lows x c.args.t) c.as_slice-done.ensures.value in
    omega (arith, ap length low, root_some c.args.terms.now c.args.t c.in_ok-marks.marks.items c.in_ok-next.next c.loop-place.terms c.loop-place.lowered.items c.loop-place.pairs.items c.loop-place.conditions.items c.loop-place.next end)

pub goal-requires-clause-well : goal.goal-requires-clause-well
goal-requires-clause-well c = c.loop-place.invariant.grown.well

pub goal-requires-clause-conditions : goal.goal-requires-clause-conditions
goal-requires-clause-conditions c = c.loop-place.invariant.within

pub goal-requires-clause-truths : goal.goal-requires-clause-truths
goal-requires-clause-truths c = c.loop-place.invariant.truths

pub goal-requires-clause-there : goal.goal-requires-clause-there
goal-requires-clause-there c =
    let end : Ended c.args.terms.now c.args.t c.in_ok-marks.marks.items c.in_ok-next.next c.loop-place.terms c.loop-place.lowered.items c.loop-place.pairs.items c.loop-place.conditions.items c.loop-place.next = ended c.args.terms.now c.args.t c.in_ok-marks.marks.items c.in_ok-next.next c.loop-place.terms c.loop-place.lowered.items c.loop-place.pairs.items c.loop-place.conditions.items c.loop-place.next c.loop-place.place c.loop-place.invariant (omega (arith, c.loop-place-test.false, c.loop-place.auto.place-end, c.len-place-end.ensures, c.in_ok-marks.marks.ok.0)) c.nodes-well_typed.ensures.well c.nodes-well_typed.ensures.shared c.requires.there c.requires.boolean c.requires.even c.requires.finite c.in_ok-marks.ensures in
    let low : c.low_of.result.now ≡ lows c.loop-place.lowered.items c.args.t = c.low_of.ensures ∙ ap (λ x. lows x c.args.t) c.as_slice-done.ensures.value in
    let root : RootLow c.loop-place.terms c.loop-place.lowered.items c.args.t c.index-low_of-0.result = root_low c.args.terms.now c.args.t c.in_ok-marks.marks.items c.in_ok-next.next c.loop-place.terms c.loop-place.lowered.items c.loop-place.pairs.items c.loop-place.conditions.items c.loop-place.next c.index-low_of-0.result end (c.index-low_of-0.is ∙ ap (λ us. get_or us 0 c.index-low_of-0.result) low) in
    root.there

pub goal-requires-clause-boolean : goal.goal-requires-clause-boolean
goal-requires-clause-boolean c =
    let end : Ended c.args.terms.now c.args.t c.in_ok-marks.marks.items c.in_ok-next.next c.loop-place.terms c.loop-place.lowered.items c.loop-place.pairs.items c.loop-place.conditions.items c.loop-place.next = ended c.args.terms.now c.args.t c.in_ok-marks.marks.items c.in_ok-next.next c.loop-place.terms c.loop-place.lowered.items c.loop-place.pairs.items c.loop-place.conditions.items c.loop-place.next c.loop-place.place c.loop-place.invariant (omega (arith, c.loop-place-test.false, c.loop-place.auto.place-end, c.len-place-end.ensures, c.in_ok-marks.marks.ok.0)) c.nodes-well_typed.ensures.well c.nodes-well_typed.ensures.shared c.requires.there c.requires.boolean c.requires.even c.requires.finite c.in_ok-marks.ensures in
    let low : c.low_of.result.now ≡ lows c.loop-place.lowered.items c.args.t = c.low_of.ensures ∙ ap (λ x. lows x c.args.t) c.as_slice-done.ensures.value in
    let root : RootLow c.loop-place.terms c.loop-place.lowered.items c.args.t c.index-low_of-0.result = root_low c.args.terms.now c.args.t c.in_ok-marks.marks.items c.in_ok-next.next c.loop-place.terms c.loop-place.lowered.items c.loop-place.pairs.items c.loop-place.conditions.items c.loop-place.next c.index-low_of-0.result end (c.index-low_of-0.is ∙ ap (λ us. get_or us 0 c.index-low_of-0.result) low) in
    root.boolean

pub returns-clause-corresponds : goal.returns-clause-corresponds
returns-clause-corresponds c =
    let end : Ended c.args.terms.now c.args.t c.in_ok-marks.marks.items c.in_ok-next.next c.loop-place.terms c.loop-place.lowered.items c.loop-place.pairs.items c.loop-place.conditions.items c.loop-place.next = ended c.args.terms.now c.args.t c.in_ok-marks.marks.items c.in_ok-next.next c.loop-place.terms c.loop-place.lowered.items c.loop-place.pairs.items c.loop-place.conditions.items c.loop-place.next c.loop-place.place c.loop-place.invariant (omega (arith, c.loop-place-test.false, c.loop-place.auto.place-end, c.len-place-end.ensures, c.in_ok-marks.marks.ok.0)) c.nodes-well_typed.ensures.well c.nodes-well_typed.ensures.shared c.requires.there c.requires.boolean c.requires.even c.requires.finite c.in_ok-marks.ensures in
    let low : c.low_of.result.now ≡ lows c.loop-place.lowered.items c.args.t = c.low_of.ensures ∙ ap (λ x. lows x c.args.t) c.as_slice-done.ensures.value in
    let root : RootLow c.loop-place.terms c.loop-place.lowered.items c.args.t c.index-low_of-0.result = root_low c.args.terms.now c.args.t c.in_ok-marks.marks.items c.in_ok-next.next c.loop-place.terms c.loop-place.lowered.items c.loop-place.pairs.items c.loop-place.conditions.items c.loop-place.next c.index-low_of-0.result end (c.index-low_of-0.is ∙ ap (λ us. get_or us 0 c.index-low_of-0.result) low) in
    subst (CorrespondBy c.args.terms.now c.args.t c.goal.new.terms c.in_ok-goal.goal) (sym c.from_vec.ensures) (corresponds c.args.terms.now c.args.t c.in_ok-marks.marks.items c.in_ok-next.next c.loop-place.terms c.goal.new.terms c.loop-place.lowered.items c.loop-place.pairs.items c.loop-place.conditions.items c.loop-place.next c.index-low_of-0.result c.in_ok-goal.goal end root c.in_ok-goal.ensures.goal)

pub returns-clause-map : goal.returns-clause-map
returns-clause-map c =
    let end : Ended c.args.terms.now c.args.t c.in_ok-marks.marks.items c.in_ok-next.next c.loop-place.terms c.loop-place.lowered.items c.loop-place.pairs.items c.loop-place.conditions.items c.loop-place.next = ended c.args.terms.now c.args.t c.in_ok-marks.marks.items c.in_ok-next.next c.loop-place.terms c.loop-place.lowered.items c.loop-place.pairs.items c.loop-place.conditions.items c.loop-place.next c.loop-place.place c.loop-place.invariant (omega (arith, c.loop-place-test.false, c.loop-place.auto.place-end, c.len-place-end.ensures, c.in_ok-marks.marks.ok.0)) c.nodes-well_typed.ensures.well c.nodes-well_typed.ensures.shared c.requires.there c.requires.boolean c.requires.even c.requires.finite c.in_ok-marks.ensures in
    let low : c.low_of.result.now ≡ lows c.loop-place.lowered.items c.args.t = c.low_of.ensures ∙ ap (λ x. lows x c.args.t) c.as_slice-done.ensures.value in
    let root : RootLow c.loop-place.terms c.loop-place.lowered.items c.args.t c.index-low_of-0.result = root_low c.args.terms.now c.args.t c.in_ok-marks.marks.items c.in_ok-next.next c.loop-place.terms c.loop-place.lowered.items c.loop-place.pairs.items c.loop-place.conditions.items c.loop-place.next c.index-low_of-0.result end (c.index-low_of-0.is ∙ ap (λ us. get_or us 0 c.index-low_of-0.result) low) in
    subst (IsMapOf c.args.terms.now c.args.t c.goal.new.terms c.in_ok-goal.goal) (sym c.from_vec.ensures) (mapped c.args.terms.now c.args.t c.in_ok-marks.marks.items c.in_ok-next.next c.loop-place.terms c.goal.new.terms c.loop-place.lowered.items c.loop-place.pairs.items c.loop-place.conditions.items c.loop-place.next c.index-low_of-0.result c.in_ok-goal.goal end root c.in_ok-goal.ensures.goal)

pub returns-clause-even : goal.returns-clause-even
returns-clause-even c =
    let end : Ended c.args.terms.now c.args.t c.in_ok-marks.marks.items c.in_ok-next.next c.loop-place.terms c.loop-place.lowered.items c.loop-place.pairs.items c.loop-place.conditions.items c.loop-place.next = ended c.args.terms.now c.args.t c.in_ok-marks.marks.items c.in_ok-next.next c.loop-place.terms c.loop-place.lowered.items c.loop-place.pairs.items c.loop-place.conditions.items c.loop-place.next c.loop-place.place c.loop-place.invariant (omega (arith, c.loop-place-test.false, c.loop-place.auto.place-end, c.len-place-end.ensures, c.in_ok-marks.marks.ok.0)) c.nodes-well_typed.ensures.well c.nodes-well_typed.ensures.shared c.requires.there c.requires.boolean c.requires.even c.requires.finite c.in_ok-marks.ensures in
    let low : c.low_of.result.now ≡ lows c.loop-place.lowered.items c.args.t = c.low_of.ensures ∙ ap (λ x. lows x c.args.t) c.as_slice-done.ensures.value in
    let root : RootLow c.loop-place.terms c.loop-place.lowered.items c.args.t c.index-low_of-0.result = root_low c.args.terms.now c.args.t c.in_ok-marks.marks.items c.in_ok-next.next c.loop-place.terms c.loop-place.lowered.items c.loop-place.pairs.items c.loop-place.conditions.items c.loop-place.next c.index-low_of-0.result end (c.index-low_of-0.is ∙ ap (λ us. get_or us 0 c.index-low_of-0.result) low) in
    (evenly c.args.terms.now c.args.t c.in_ok-marks.marks.items c.in_ok-next.next c.loop-place.terms c.goal.new.terms c.loop-place.lowered.items c.loop-place.pairs.items c.loop-place.conditions.items c.loop-place.next c.index-low_of-0.result c.in_ok-goal.goal end root c.in_ok-goal.ensures.goal)

pub returns-clause-lowered : goal.returns-clause-lowered
returns-clause-lowered c =
    let end : Ended c.args.terms.now c.args.t c.in_ok-marks.marks.items c.in_ok-next.next c.loop-place.terms c.loop-place.lowered.items c.loop-place.pairs.items c.loop-place.conditions.items c.loop-place.next = ended c.args.terms.now c.args.t c.in_ok-marks.marks.items c.in_ok-next.next c.loop-place.terms c.loop-place.lowered.items c.loop-place.pairs.items c.loop-place.conditions.items c.loop-place.next c.loop-place.place c.loop-place.invariant (omega (arith, c.loop-place-test.false, c.loop-place.auto.place-end, c.len-place-end.ensures, c.in_ok-marks.marks.ok.0)) c.nodes-well_typed.ensures.well c.nodes-well_typed.ensures.shared c.requires.there c.requires.boolean c.requires.even c.requires.finite c.in_ok-marks.ensures in
    let low : c.low_of.result.now ≡ lows c.loop-place.lowered.items c.args.t = c.low_of.ensures ∙ ap (λ x. lows x c.args.t) c.as_slice-done.ensures.value in
    let root : RootLow c.loop-place.terms c.loop-place.lowered.items c.args.t c.index-low_of-0.result = root_low c.args.terms.now c.args.t c.in_ok-marks.marks.items c.in_ok-next.next c.loop-place.terms c.loop-place.lowered.items c.loop-place.pairs.items c.loop-place.conditions.items c.loop-place.next c.index-low_of-0.result end (c.index-low_of-0.is ∙ ap (λ us. get_or us 0 c.index-low_of-0.result) low) in
    (lowered_term c.args.terms.now c.args.t c.in_ok-marks.marks.items c.in_ok-next.next c.loop-place.terms c.goal.new.terms c.loop-place.lowered.items c.loop-place.pairs.items c.loop-place.conditions.items c.loop-place.next c.index-low_of-0.result c.in_ok-goal.goal end root c.in_ok-goal.ensures.goal)

pub returns-clause-bits : goal.returns-clause-bits
returns-clause-bits c =
    let end : Ended c.args.terms.now c.args.t c.in_ok-marks.marks.items c.in_ok-next.next c.loop-place.terms c.loop-place.lowered.items c.loop-place.pairs.items c.loop-place.conditions.items c.loop-place.next = ended c.args.terms.now c.args.t c.in_ok-marks.marks.items c.in_ok-next.next c.loop-place.terms c.loop-place.lowered.items c.loop-place.pairs.items c.loop-place.conditions.items c.loop-place.next c.loop-place.place c.loop-place.invariant (omega (arith, c.loop-place-test.false, c.loop-place.auto.place-end, c.len-place-end.ensures, c.in_ok-marks.marks.ok.0)) c.nodes-well_typed.ensures.well c.nodes-well_typed.ensures.shared c.requires.there c.requires.boolean c.requires.even c.requires.finite c.in_ok-marks.ensures in
    let low : c.low_of.result.now ≡ lows c.loop-place.lowered.items c.args.t = c.low_of.ensures ∙ ap (λ x. lows x c.args.t) c.as_slice-done.ensures.value in
    let root : RootLow c.loop-place.terms c.loop-place.lowered.items c.args.t c.index-low_of-0.result = root_low c.args.terms.now c.args.t c.in_ok-marks.marks.items c.in_ok-next.next c.loop-place.terms c.loop-place.lowered.items c.loop-place.pairs.items c.loop-place.conditions.items c.loop-place.next c.index-low_of-0.result end (c.index-low_of-0.is ∙ ap (λ us. get_or us 0 c.index-low_of-0.result) low) in
    (no_more_bits c.args.terms.now c.args.t c.in_ok-marks.marks.items c.in_ok-next.next c.loop-place.terms c.goal.new.terms c.loop-place.lowered.items c.loop-place.pairs.items c.loop-place.conditions.items c.loop-place.next c.index-low_of-0.result c.in_ok-goal.goal end root c.in_ok-goal.ensures.goal)

pub returns-in_err-low-clause-grown : goal.returns-in_err-low-clause-grown
returns-in_err-low-clause-grown c = grows_on _ _ _ c.loop-place.invariant.grown c.in_err-low.ensures.grown

pub returns-in_err-push-clause-grown : goal.returns-in_err-push-clause-grown
returns-in_err-push-clause-grown c = grows_on _ _ _ c.loop-place.invariant.grown c.in_ok-low.ensures.grown

pub returns-in_err-goal-clause-grown : goal.returns-in_err-goal-clause-grown
returns-in_err-goal-clause-grown c = grows_on _ _ _ c.loop-place.invariant.grown c.in_err-goal.ensures.grown

pub returns-clause-grown : goal.returns-clause-grown
returns-clause-grown c = grows_on _ _ _ c.loop-place.invariant.grown c.in_ok-goal.ensures.grown
