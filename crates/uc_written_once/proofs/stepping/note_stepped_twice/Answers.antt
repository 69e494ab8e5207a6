use Rattle.uc_written_once.proofs.SteppedOnceFound.{all_found}
use Rattle.uc_written_once.proofs.stepping.note_stepped_twice.Goals as goal

pub returns : goal.returns
returns c = all_found c.args.whole.now _ _ _ _ c.new-seen.ensures c.as_slice.ensures c.in_ok-note_in_declarations.ensures
