use Rattle.std.proofs.Common.{map}
use Rattle.uc_values.specs.Values.{number_of}
use Rattle.uc_ops.specs.Meaning.{part}
use Rattle.uc_ops.proofs.Parts.{Summing}
use Rattle.uc_ops.proofs.application.sum_of.Given as goal

abbrev pub invariant-loop-place : goal.invariant-loop-place
invariant-loop-place l = Summing (map number_of (map (part l.given) l.parts)) l.place l.total
