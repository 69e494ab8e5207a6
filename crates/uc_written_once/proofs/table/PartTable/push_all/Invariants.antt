use Rattle.std.proofs.Common.{◌≡◌, ◌++◌}
use Rattle.uc_written_once.proofs.table.PartTable.push_all.Given as goal

abbrev pub invariant-loop-part : goal.invariant-loop-part
invariant-loop-part l = l.self ≡ l.fn.self ++ l.yielded
