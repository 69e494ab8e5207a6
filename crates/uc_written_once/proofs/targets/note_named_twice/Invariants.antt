use Rattle.std.specs.List.{flat_map}
use Rattle.uc_order_rules.specs.Writes.{sequential_in}
use Rattle.uc_written_once.specs.LoneFaultsWalks.{named_twice}
use Rattle.uc_written_once.proofs.Noted.{NotedUpTo}
use Rattle.uc_written_once.proofs.targets.note_named_twice.Given as goal

abbrev pub invariant-loop-declaration : goal.invariant-loop-declaration
invariant-loop-declaration l = NotedUpTo (λ d. flat_map named_twice (sequential_in d)) l.declaration-items l.fn.first l.declaration-index l.first
