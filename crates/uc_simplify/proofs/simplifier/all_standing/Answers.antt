use Rattle.std.proofs.Common.{arith, ◌<◌, length}
use Rattle.uc_simplify.proofs.Standing.{Grows-trans, AllAnswered-push, all_parts_known}
use Rattle.uc_simplify.proofs.simplifier.all_standing.Goals as goal

pub answer_from-requires-clause-answered : goal.answer_from-requires-clause-answered
answer_from-requires-clause-answered c =
    let within : c.loop-place.place < length c.args.terms.now = omega (arith, c.loop-place-test.true, c.len-count.ensures.len) in
    rw c.deref.ensures.value (all_parts_known c.args.terms.now c.loop-place.terms c.loop-place.answers.items c.loop-place.place c.len-count.ensures.well within c.loop-place.invariant.answered)

pub loop-place-preserved : goal.loop-place-preserved
loop-place-preserved c =
    let within : c.loop-place.place < length c.args.terms.now = omega (arith, c.loop-place-test.true, c.len-count.ensures.len) in
    record {
      answered = AllAnswered-push c.args.terms.now c.loop-place.terms c.answer_from.new.terms c.loop-place.answers.items _ c.loop-place.place c.in_ok-answer.answer c.len-count.ensures.well c.loop-place.invariant.well within
          c.answer_from.ensures.grown c.in_ok-answer.ensures.stands c.in_ok-push.ensures.items c.loop-place.invariant.answered;
      well = c.answer_from.ensures.well;
    }

pub returns-in_err-answer-clause-grown : goal.returns-in_err-answer-clause-grown
returns-in_err-answer-clause-grown c = Grows-trans _ _ _ c.loop-place.invariant.answered.grown c.answer_from.ensures.grown

pub returns-in_err-push-clause-grown : goal.returns-in_err-push-clause-grown
returns-in_err-push-clause-grown c = Grows-trans _ _ _ c.loop-place.invariant.answered.grown c.answer_from.ensures.grown

pub returns-clause-grown : goal.returns-clause-grown
returns-clause-grown c = c.loop-place.invariant.answered.grown
