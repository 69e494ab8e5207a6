use Rattle.std.proofs.Common.{◌≡◌, length, take}
use Rattle.uc_learner.specs.Answered.{inputs_count}
use Rattle.uc_learner_rows.proofs.instances.problem_of.Given as goal

abbrev pub invariant-loop-number : goal.invariant-loop-number
invariant-loop-number l = record { atoms : length l.atoms ≡ inputs_count (take l.number l.flags.items) }
