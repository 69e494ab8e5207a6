use Rattle.std.proofs.Common.{take}
use Rattle.uc_meaning.specs.Steps.{is_prefix}
use Rattle.uc_written_once.specs.Places.{AreNoted}
use Rattle.uc_written_once.proofs.KnownPlaces.{known_more, notes_front, notes_more}
use Rattle.uc_written_once.proofs.Overlaps.{front_self, fronts_all}
use Rattle.uc_written_once.proofs.table.note_fronts.Goals as goal

pub returns-clause-noted : goal.returns-clause-noted
returns-clause-noted c =
    λ h. known_more is_prefix c.note_front.new.places c.args.parts.now c.args.path.now (c.in_ok-note_front.ensures.known (c.in_ok-note_short_fronts.ensures.known h))
    (fronts_all (λ q. AreNoted is_prefix c.note_front.new.places c.args.parts.now c.args.path.now q) c.args.path.now
    (λ k less. notes_more is_prefix c.args.parts.now c.note_short_fronts.new.places c.note_front.new.places c.args.path.now c.in_ok-note_front.ensures.ok c.args.path.now (front_self c.args.path.now) (take k c.args.path.now)
    (c.in_ok-note_short_fronts.ensures.noted k less))
    (notes_front is_prefix c.args.parts.now c.note_short_fronts.new.places c.note_front.new.places c.args.path.now c.in_ok-note_front.ensures.ok c.args.path.now (front_self c.args.path.now)))
