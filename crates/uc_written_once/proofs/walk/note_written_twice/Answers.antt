use Rattle.std.specs.List.{flat_map}
use Rattle.uc_meaning.specs.Lookup.{next_in}
use Rattle.uc_written_once.proofs.Found.{all_faults}
use Rattle.uc_written_once.proofs.walk.note_written_twice.Goals as goal

pub returns : goal.returns
returns c = λ modified steps are. all_faults c.args.effects.now modified steps are (flat_map next_in c.args.declarations.now) _ _ _ _ c.new-seen.ensures c.in_ok-note_in_declarations.ensures
