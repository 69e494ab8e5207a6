use Rattle.uc_meaning.specs.Steps.{is_prefix}
use Rattle.uc_written_once.proofs.KnownPlaces.{known_same, noted_by, notes_known}
use Rattle.uc_written_once.proofs.table.note_front.Goals as goal

pub returns-clause-ok : goal.returns-clause-ok
returns-clause-ok c = noted_by is_prefix c.args.parts.now c.args.places.now c.enter.new.self c.args.front.now _ c.is_front_known-is_known.ensures c.in_ok-enter.ensures.ok

pub returns-clause-known : goal.returns-clause-known
returns-clause-known c =
    notes_known is_prefix c.args.parts.now c.args.places.now c.enter.new.self c.args.front.now
    (noted_by is_prefix c.args.parts.now c.args.places.now c.enter.new.self c.args.front.now _ c.is_front_known-is_known.ensures c.in_ok-enter.ensures.ok)

pub returns-in_err-enter-clause-known : goal.returns-in_err-enter-clause-known
returns-in_err-enter-clause-known c = known_same is_prefix c.args.places.now c.enter.new.self c.args.parts.now c.in_err-enter.ensures.err
