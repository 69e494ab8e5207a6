use Rattle.std.proofs.Common.{◌≡◌, Some, take, fold}
use Rattle.std.specs.List.{flat_map}
use Rattle.uc_meaning.specs.Lines.{commands_in}
use Rattle.uc_report.specs.declared.control_rules.ControlRule.TheVariants.{UnknownCommand}
use Rattle.uc_report.specs.ControlRulesParts.{broken_behind}
use Rattle.uc_report.proofs.control_rules.broken_by_name.Given as goal

abbrev pub invariant-loop-decl : goal.invariant-loop-decl
invariant-loop-decl l = l.broken ≡ fold (broken_behind l.name) (Some UnknownCommand) (flat_map commands_in (take l.decl-index l.others))
