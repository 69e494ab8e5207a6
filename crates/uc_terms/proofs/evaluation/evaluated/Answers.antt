use Rattle.std.proofs.Common.{◌<◌, length, false, sym, ◌∙◌, arith}
use Rattle.std.proofs.lemmas.List.{get_or_read}
use Rattle.uc_terms.specs.Subterms.{Marked}
use Rattle.uc_terms.proofs.Evaluating.{parts_known, Evaluating-end}
use Rattle.uc_terms.proofs.evaluation.evaluated.Goals as goal

pub value_at-requires-clause-given : goal.value_at-requires-clause-given
value_at-requires-clause-given c =
    let marks = c.in_ok-marks.marks.items in
    let place = c.loop-place.place in
    let within : place < length marks = omega (arith, c.loop-place-test.true, c.len-place-end.ensures, c.in_ok-marks.marks.ok.0) in
    let marked : Marked marks place = sym (get_or_read marks place c.index.result.now within c.index.ensures false) ∙ c.if-index.true in
    rw c.deref.ensures.value (parts_known c.args.model.now c.args.terms.now c.args.roots.now marks c.loop-place.values.items place c.in_ok-marks.ensures marked c.loop-place.invariant)

pub returns-clause-ok : goal.returns-clause-ok
returns-clause-ok c =
    Evaluating-end c.args.model.now c.args.terms.now c.args.roots.now c.in_ok-marks.marks.items c.loop-place.values.items c.loop-place.place c.in_ok-marks.ensures
    (omega (arith, c.loop-place-test.false, c.len-place-end.ensures, c.in_ok-marks.marks.ok.0)) c.loop-place.invariant
