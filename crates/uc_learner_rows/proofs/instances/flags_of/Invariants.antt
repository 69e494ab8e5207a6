use Rattle.std.proofs.Common.{◌≡◌, take}
use Rattle.uc_learner.specs.Learners.{input_flags}
use Rattle.uc_learner_rows.proofs.instances.flags_of.Given as goal

abbrev pub invariant-loop-number : goal.invariant-loop-number
invariant-loop-number l = record { flags : l.flags.items ≡ input_flags (take l.number l.circuit) }
