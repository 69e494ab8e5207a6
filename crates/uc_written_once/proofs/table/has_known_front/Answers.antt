use Rattle.std.proofs.Common.{below_more, ap, ◌∙◌, sym, arith}
use Rattle.uc_written_once.specs.Places.{is_known}
use Rattle.uc_written_once.proofs.KnownPlaces.{same}
use Rattle.uc_written_once.proofs.Overlaps.{front_found, front_last, none_to}
use Rattle.uc_written_once.proofs.table.has_known_front.Goals as goal

pub loop-end-preserved : goal.loop-end-preserved
loop-end-preserved c =
    below_more _ _ c.loop-end.invariant
    (sym (ap (is_known same c.args.places.now c.args.parts.now) c.front_of.ensures) ∙ sym c.is_whole_known.ensures ∙ c.if-is_whole_known.false)

pub returns-then-is_whole_known : goal.returns-then-is_whole_known
returns-then-is_whole_known c =
    front_found (is_known same c.args.places.now c.args.parts.now) c.args.path.now c.loop-end.end (omega arith)
    (sym (ap (is_known same c.args.places.now c.args.parts.now) c.front_of.ensures) ∙ sym c.is_whole_known.ensures ∙ c.if-is_whole_known.true)

pub returns : goal.returns
returns c = c.is_whole_known-2.ensures ∙ front_last (is_known same c.args.places.now c.args.parts.now) c.args.path.now (none_to (is_known same c.args.places.now c.args.parts.now) c.args.path.now _ c.loop-end.invariant c.loop-end-test.false)
