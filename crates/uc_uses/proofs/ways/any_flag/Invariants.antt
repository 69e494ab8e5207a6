use Rattle.std.proofs.Common.{◌≡◌, drop}
use Rattle.uc_uses.specs.Rounds.{any_flag}
use Rattle.uc_uses.proofs.ways.any_flag.Given as goal

abbrev pub invariant-loop-node : goal.invariant-loop-node
invariant-loop-node l = any_flag l.flags l.past (drop l.node-index l.nodes) ≡ any_flag l.flags l.past l.nodes
