-- What a print of the lines of a command by its name breaks, command by command before it.
use Rattle.std.specs.Prelude.{ℕ, not, if◌then◌else◌, Option, Some, None}
use Rattle.uc_syntax.specs.declared.declaration.Command.{Command}
use Rattle.uc_meaning.specs.Lines.{is_check}
use Rattle.uc_report.specs.declared.control_rules.ControlRule.{ControlRule}
use Rattle.uc_report.specs.declared.control_rules.ControlRule.TheVariants.{UnknownCommand, NotChecked}
use Rattle.uc_report.specs.Prints.{is_run_named}
use Rattle.uc_report.specs.ControlRules.{broken_if}

-- No command is named so until one is; then nothing is checked until a `check` comes, and nothing is broken from then on.
abbrev pub broken_behind : ℕ → Option ControlRule → Command → Option ControlRule
broken_behind x (Some UnknownCommand) c = if is_run_named x c then Some NotChecked else Some UnknownCommand
broken_behind x (Some NotChecked) c = broken_if (not (is_check c)) NotChecked
broken_behind x other c = other
