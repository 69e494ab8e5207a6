use Rattle.std.proofs.Common.{ap}
use Rattle.uc_written_once.specs.Effects.{stepping_of}
use Rattle.uc_written_once.proofs.Single.{step_none, step_some}
use Rattle.uc_written_once.proofs.noting.note_step.Goals as goal

pub returns-in-None : goal.returns-in-None
returns-in-None c = step_none c.args.place _ c.args.again _ _ (ap stepping_of c.in-None.ensures)

pub returns-in_ok-add_copies-in-Some : goal.returns-in_ok-add_copies-in-Some
returns-in_ok-add_copies-in-Some c =
    step_some c.args.place _ _ c.args.again _ _ _ _ _ _ (ap stepping_of c.in-Some.ensures) c.is_twice-is_fault.ensures c.note_where.ensures c.as_slice.ensures c.in_ok-add_copies-in-Some.ensures
