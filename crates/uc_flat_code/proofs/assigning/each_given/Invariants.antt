use Rattle.std.proofs.Common.{◌≡◌, length}
use Rattle.uc_flat_code.specs.Code.{in_order}
use Rattle.uc_flat_code.specs.Init.{each_given}
use Rattle.uc_flat_code.proofs.Targets.{behind_writes, left_given}
use Rattle.uc_flat_code.proofs.assigning.each_given.Given as goal

abbrev pub invariant-loop-k : goal.invariant-loop-k
invariant-loop-k l =
    (length l.targets ≡ length l.values)
    × (in_order (each_given l.names l.first l.targets l.values) ≡ behind_writes l.all (left_given l.names l.first l.targets l.values l.k))
