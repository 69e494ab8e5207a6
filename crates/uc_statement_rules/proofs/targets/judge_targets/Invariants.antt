use Rattle.std.proofs.Common.{take}
use Rattle.uc_statement_rules.specs.Judging.{JudgesTargets}
use Rattle.uc_statement_rules.proofs.targets.judge_targets.Given as goal

abbrev pub invariant-loop-target : goal.invariant-loop-target
invariant-loop-target l = JudgesTargets l.scope (take l.target-index l.targets) l.fn.first l.first l.types
