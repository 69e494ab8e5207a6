use Rattle.std.proofs.Common.{◌≡◌}
use Rattle.std.specs.List.{flat_map}
use Rattle.uc_rules.specs.Faults.{first_of}
use Rattle.uc_uses.specs.Noted.{noted_at, numbers_below}
use Rattle.uc_uses.proofs.noting.note_flagged.Given as goal

abbrev pub invariant-loop-node : goal.invariant-loop-node
invariant-loop-node l = l.first ≡ first_of l.fn.first (flat_map (noted_at l.root.tree l.root.table l.flags) (numbers_below l.node))
