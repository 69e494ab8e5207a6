use Rattle.std.proofs.Common.{take}
use Rattle.uc_flat_order.specs.Writers.{Grown}
use Rattle.uc_flat_order.proofs.writers.list_writes.Given as goal

abbrev pub invariant-loop-part : goal.invariant-loop-part
invariant-loop-part l = Grown l.fn.lists l.lists l.count (take l.part-index l.writes) l.place
