use Rattle.std.proofs.Common.{◌≡◌, ◌<◌, false, arith, length, slice_index_or}
use Rattle.std.proofs.lemmas.List.{get_or_read}
use Rattle.uc_solver.proofs.Giving.{given_none, given_next, given_all}
use Rattle.uc_solver.proofs.symbols.model_of.Goals as goal

pub loop-place-preserved : goal.loop-place-preserved
loop-place-preserved c =
    let within : c.loop-place.place < length c.in_ok-marks.marks.items = omega (arith, c.loop-place-test.true, c.len-place-end.ensures, c.in_ok-marks.marks.ok.0) in
    let mark : c.index.result.now ≡ slice_index_or c.in_ok-marks.marks.items c.loop-place.place false = get_or_read c.in_ok-marks.marks.items c.loop-place.place c.index.result.now within c.index.ensures false in
    given_next c.args.terms.now c.args.t c.in_ok-marks.marks.items c.args.values.now c.loop-place.symbols c.give.new.symbols c.loop-place.place c.index.result.now
    (record { well = c.len-shared.ensures.well; two = c.len-shared.ensures.shared; even = c.requires.even; below = c.in_ok-marks.ensures }) mark within c.in_ok-give.ensures c.loop-place.invariant

pub returns : goal.returns
returns c =
    given_all c.args.terms.now c.args.t c.in_ok-marks.marks.items c.args.values.now c.loop-place.place (record { symbols = c.loop-place.symbols; tables = c.new.result })
    (record { well = c.len-shared.ensures.well; two = c.len-shared.ensures.shared; even = c.requires.even; below = c.in_ok-marks.ensures })
    (omega (arith, c.loop-place-test.false, c.len-place-end.ensures, c.in_ok-marks.marks.ok.0)) c.requires.no_function c.requires.fit c.loop-place.invariant
