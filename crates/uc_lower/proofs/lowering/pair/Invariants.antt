use Rattle.std.proofs.Common.{◌≡◌, ◌++◌, take}
use Rattle.uc_lower.specs.Walk.{paired}
use Rattle.uc_lower.proofs.lowering.pair.Given as goal

abbrev pub invariant-loop-symbol : goal.invariant-loop-symbol
invariant-loop-symbol l = l.pairs.items ≡ l.fn.pairs.items ++ paired l.t (take l.symbol-index l.symbols)
