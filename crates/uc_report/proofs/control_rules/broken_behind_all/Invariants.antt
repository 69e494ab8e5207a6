use Rattle.std.proofs.Common.{◌≡◌, drop, fold}
use Rattle.uc_report.specs.ControlRulesParts.{broken_behind}
use Rattle.uc_report.proofs.control_rules.broken_behind_all.Given as goal

abbrev pub invariant-loop-command : goal.invariant-loop-command
invariant-loop-command l = fold (broken_behind l.name) l.broken (drop l.command-index l.commands) ≡ fold (broken_behind l.name) l.initial.broken l.commands
