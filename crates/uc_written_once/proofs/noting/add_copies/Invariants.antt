use Rattle.std.proofs.Common.{◌≡◌, ◌++◌, take}
use Rattle.uc_written_once.proofs.noting.add_copies.Given as goal

abbrev pub invariant-loop-part : goal.invariant-loop-part
invariant-loop-part l = l.seen ≡ l.fn.seen ++ take l.part-index l.parts
