use Rattle.std.proofs.Common.{◌≡◌, map, take}
use Rattle.uc_ops.specs.Meaning.{part}
use Rattle.uc_ops.proofs.part.copy_parts.Given as goal

abbrev pub invariant-loop-part : goal.invariant-loop-part
invariant-loop-part l = l.values.items ≡ map (part l.given) (take l.part-index l.parts)
