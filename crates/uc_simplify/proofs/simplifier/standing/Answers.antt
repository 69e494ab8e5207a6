use Rattle.std.proofs.Common.{rules, [], ◌∷◌, slice_index, ◌∙◌, ◌<◌, length, false, sym, ap, subst, arith}
use Rattle.std.proofs.lemmas.Bool.{false≢true}
use Rattle.std.proofs.lemmas.List.{get_or_read, get_or_default}
use Rattle.uc_terms.specs.Subterms.{Marked}
use Rattle.uc_simplify.proofs.Standing.{Answered-push, Grows-none, parts_known, root_stands}
use Rattle.uc_simplify.specs.Simplified.{StandsFor}
use Rattle.uc_simplify.proofs.simplifier.standing.Goals as goal
use Rattle.uc_simplify.proofs.simplifier.standing.Goals.{then-index+in_ok-simplified+in_ok-push, else-index+in_ok-push-2}

pub simplified-requires-clause-answered : goal.simplified-requires-clause-answered
simplified-requires-clause-answered c =
    let marks = c.in_ok-marks.marks.items in
    let place = c.loop-place.place in
    let within : place < length marks = omega (arith, c.loop-place-test.true, c.len-place-end.ensures, c.in_ok-marks.marks.ok.0) in
    let marked : Marked marks place = sym (get_or_read marks place c.index.result.now within c.index.ensures false) ∙ c.if-index.true in
    rw c.deref.ensures.value (parts_known c.args.terms.now c.loop-place.terms (c.args.t ∷ []) marks c.loop-place.answers.items place c.len-count.ensures.well c.in_ok-marks.ensures marked c.loop-place.invariant.answered)

pub loop-place-preserved : goal.loop-place-preserved
loop-place-preserved c =
    let marks = c.in_ok-marks.marks.items in
    let place = c.loop-place.place in
    let within : place < length marks = omega (arith, c.loop-place-test.true, c.len-place-end.ensures, c.in_ok-marks.marks.ok.0) in
    elim c.if-index.branch [
      | then-index+in_ok-simplified+in_ok-push w ↦ rw (w.terms-is, w.answers-is) (record {
        answered = Answered-push c.args.terms.now c.loop-place.terms w.simplified.new.terms marks c.loop-place.answers.items w.push.new.self.items place w.in_ok-simplified.field-0
            c.len-count.ensures.well c.loop-place.invariant.well c.in_ok-marks.ensures.within w.simplified.ensures.grown (λ h. w.in_ok-simplified.ensures.stands) (search rules) c.loop-place.invariant.answered;
        well = w.simplified.ensures.well;
      })
      | else-index+in_ok-push-2 w ↦ rw (w.terms-is, w.answers-is) (record {
        answered = Answered-push c.args.terms.now c.loop-place.terms c.loop-place.terms marks c.loop-place.answers.items w.push-else-index.new.self.items place c.args.t
            c.len-count.ensures.well c.loop-place.invariant.well c.in_ok-marks.ensures.within (Grows-none c.loop-place.terms)
            (λ h. absurd (false≢true (sym w.if-index.false ∙ get_or_read marks place c.index.result.now within c.index.ensures false ∙ h))) (search rules) c.loop-place.invariant.answered;
        well = c.loop-place.invariant.well;
      })
    ]

pub index-requires-3 : goal.index-requires-3
index-requires-3 c =
    let r = root_stands c.args.terms.now c.loop-place.terms c.args.t c.in_ok-marks.marks.items c.loop-place.answers.items c.loop-place.place c.in_ok-marks.ensures
    (omega (arith, c.loop-place-test.false, c.len-place-end.ensures, c.in_ok-marks.marks.ok.0)) c.loop-place.invariant.answered in
    omega (arith, r.0, c.index-2.ensures, c.loop-place.answers.ok.0)

pub returns-clause-stands : goal.returns-clause-stands
returns-clause-stands c =
    let r = root_stands c.args.terms.now c.loop-place.terms c.args.t c.in_ok-marks.marks.items c.loop-place.answers.items c.loop-place.place c.in_ok-marks.ensures
    (omega (arith, c.loop-place-test.false, c.len-place-end.ensures, c.in_ok-marks.marks.ok.0)) c.loop-place.invariant.answered in
    subst (λ x. StandsFor c.loop-place.terms x c.args.terms.now c.args.t) (sym (c.index-3.ensures ∙ get_or_default c.loop-place.answers.items c.index-2.result c.index-3.result.now 0 (omega (arith, r.0, c.index-2.ensures)) ∙ ap (slice_index c.loop-place.answers.items) c.index-2.ensures)) r.1
