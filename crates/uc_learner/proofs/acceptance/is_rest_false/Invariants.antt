use Rattle.std.proofs.Common.{◌≡◌, ◌<◌, ◌≤◌, ℕ, List}
use Rattle.uc_learner.specs.Accepted.{RestFalsified}
use Rattle.uc_learner.proofs.acceptance.is_rest_false.Given as goal

abbrev pub invariant-loop-place : goal.invariant-loop-place
invariant-loop-place l = RestFalsified l.trail l.target l.clause l.place
