use Rattle.std.proofs.Common.{take}
use Rattle.uc_lower.specs.Symbols.{AreSymbols}
use Rattle.uc_lower.proofs.symbols.symbols.Given as goal

abbrev pub invariant-loop-leaf : goal.invariant-loop-leaf
invariant-loop-leaf l = AreSymbols l.fn.terms l.terms l.fn.next l.next (take l.leaf-index l.leaves) l.symbols.items l.fn.conditions.items l.conditions.items
