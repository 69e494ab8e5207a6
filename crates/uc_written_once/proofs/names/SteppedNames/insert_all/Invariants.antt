use Rattle.uc_written_once.proofs.Adding.{NamesFrom}
use Rattle.uc_written_once.proofs.names.SteppedNames.insert_all.Given as goal

abbrev pub invariant-loop-name : goal.invariant-loop-name
invariant-loop-name l = NamesFrom l.fn.self l.more l.name-index l.self
