use Rattle.std.proofs.Common.{◌≡◌, drop}
use Rattle.uc_meaning.specs.Lookup.{first_some}
use Rattle.uc_runnable.specs.Outside.{number_in_target}
use Rattle.uc_runnable.proofs.numbers.number_in_targets.Given as goal

abbrev pub invariant-loop-target : goal.invariant-loop-target
invariant-loop-target l = first_some number_in_target (drop l.target-index l.targets) ≡ first_some number_in_target l.targets
