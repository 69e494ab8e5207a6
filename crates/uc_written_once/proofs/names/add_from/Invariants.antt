use Rattle.std.proofs.Common.{◌≡◌, ◌++◌, drop}
use Rattle.uc_written_once.proofs.names.add_from.Given as goal

abbrev pub invariant-loop-k : goal.invariant-loop-k
invariant-loop-k l = l.aside ++ drop l.k l.names ≡ l.fn.aside ++ drop l.start l.names
