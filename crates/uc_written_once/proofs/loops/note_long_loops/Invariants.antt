use Rattle.std.specs.List.{flat_map}
use Rattle.uc_order_rules.specs.Sizes.{code_in}
use Rattle.uc_written_once.specs.LoneFaultsWalks.{long_loops}
use Rattle.uc_written_once.proofs.Noted.{NotedUpTo}
use Rattle.uc_written_once.proofs.loops.note_long_loops.Given as goal

abbrev pub invariant-loop-declaration : goal.invariant-loop-declaration
invariant-loop-declaration l = NotedUpTo (λ d. flat_map long_loops (code_in d)) l.declaration-items l.fn.first l.declaration-index l.first
