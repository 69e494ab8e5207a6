use Rattle.std.proofs.Common.{◌≡◌, take}
use Rattle.uc_lower.specs.Steps.{joined_lows}
use Rattle.uc_lower.proofs.nodes.low_parts.Given as goal

abbrev pub invariant-loop-part : goal.invariant-loop-part
invariant-loop-part l = l.all.items ≡ joined_lows l.lowered (take l.part-index l.parts)
