use Rattle.std.proofs.Common.{◌≡◌, ◌++◌, drop}
use Rattle.uc_flat_making.specs.Parts.{inputs_by}
use Rattle.uc_flat_making.proofs.parts.inputs_by.Given as goal

abbrev pub invariant-loop-kind : goal.invariant-loop-kind
invariant-loop-kind l = inputs_by l.shift l.kinds ≡ l.all ++ inputs_by l.cell (drop l.kind-index l.kinds)
