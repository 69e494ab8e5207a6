use Rattle.std.proofs.Common.{take}
use Rattle.uc_read_names.specs.Reading.{SameNames}
use Rattle.uc_read_names.proofs.modified.known_names.Given as goal

abbrev pub invariant-loop-name : goal.invariant-loop-name
invariant-loop-name l = SameNames (take l.name-index l.names) l.known
