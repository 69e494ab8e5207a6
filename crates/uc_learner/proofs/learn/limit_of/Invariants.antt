use Rattle.std.proofs.Common.{◌≡◌, ◌^◌, take}
use Rattle.uc_learner.specs.Answered.{inputs_count}
use Rattle.uc_learner.proofs.learn.limit_of.Given as goal

abbrev pub invariant-loop-at : goal.invariant-loop-at
invariant-loop-at l = record { power : l.reserve ≡ 2 ^ inputs_count (take l.at l.inputs) }
