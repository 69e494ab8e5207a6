use Rattle.uc_written_once.proofs.KnownPlaces.{noted_by, whole_noted}
use Rattle.uc_written_once.proofs.table.note_whole.Goals as goal

pub returns-clause-noted : goal.returns-clause-noted
returns-clause-noted c =
    whole_noted c.args.parts.now c.args.places.now c.enter.new.self c.args.path.now
    (noted_by _ c.args.parts.now c.args.places.now c.enter.new.self c.args.path.now _ c.is_whole_known-is_known.ensures c.in_ok-enter.ensures.ok)
