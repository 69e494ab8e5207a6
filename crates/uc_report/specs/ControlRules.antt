-- The rules on control blocks: what a command breaks, by the commands before it, and the first fault.
use Rattle.std.specs.Prelude.{◌≡◌, ℕ, Bool, true, false, not, ◌||◌, nat_eq, nat_lt, if◌then◌else◌, List, [], ◌∷◌, ◌++◌, Option, Some, None}
use Rattle.std.specs.Option.{option_map, option_or}
use Rattle.std.specs.List.{list_any}
use Rattle.uc_lexer.specs.declared.place.Place.{Place}
use Rattle.uc_syntax.specs.declared.place.Identifier.{Identifier}
use Rattle.uc_syntax.specs.declared.declaration.WrittenRun.{WrittenRun}
use Rattle.uc_syntax.specs.declared.declaration.WrittenRun.TheVariants.{Unroll, Induction, Verify}
use Rattle.uc_syntax.specs.declared.declaration.Command.{Command}
use Rattle.uc_syntax.specs.declared.declaration.Command.TheVariants.{Run, Check, PrintResults, PrintCounterexamples}
use Rattle.uc_syntax.specs.declared.declaration.Decl.{Decl}
use Rattle.uc_syntax.specs.declared.declaration.Decl.TheVariants.{Procedure}
use Rattle.uc_meaning.specs.Lookup.{System}
use Rattle.uc_meaning.specs.Fragment.{most_steps}
use Rattle.uc_meaning.specs.Lines.{main_declarations, commands_of, is_check}
use Rattle.uc_report.specs.declared.control_rules.ControlRule.{ControlRule}
use Rattle.uc_report.specs.declared.control_rules.ControlRule.TheVariants.{UnknownCommand, NotChecked, BadDepth, UnknownProcedure}
use Rattle.uc_report.specs.declared.control_rules.ControlFault.{ControlFault}
use Rattle.uc_report.specs.Prints.{is_run_named}

-- the number under which a broken rule is reported
abbrev pub control_number : ControlRule → ℕ
control_number UnknownCommand = 28
control_number NotChecked = 29
control_number BadDepth = 30
control_number UnknownProcedure = 31

-- how many states an induction may link before the last one
abbrev pub most_linked : ℕ
most_linked = 100

abbrev pub broken_if : Bool → ControlRule → Option ControlRule
broken_if true rule = Some rule
broken_if false rule = None

abbrev pub is_procedure_named : ℕ → Decl → Bool
is_procedure_named x (Procedure place p) = nat_eq p.identifier.name x
is_procedure_named x other = false

-- at a run: its depth is out of bounds, or what it verifies is no procedure of main
abbrev pub broken_by_run : System → WrittenRun → Option ControlRule
broken_by_run system (Unroll n) = broken_if (nat_lt most_steps n) BadDepth
broken_by_run system (Induction None) = None
broken_by_run system (Induction (Some k)) = broken_if (nat_eq k 0 || nat_lt most_linked k) BadDepth
broken_by_run system (Verify p) = broken_if (not (list_any (is_procedure_named p.name) (main_declarations system))) UnknownProcedure

-- at a print of what the last `check` judged: there is none before
abbrev pub broken_by_print : List Command → Option ControlRule
broken_by_print before = broken_if (not (list_any is_check before)) NotChecked

-- at a print of the lines of a command by its name: no command before has it, or no `check` is behind the first that has it
unfoldable pub broken_by_name : ℕ → List Command → Option ControlRule
broken_by_name x [] = Some UnknownCommand
broken_by_name x (c ∷ cs) = if is_run_named x c then broken_by_print cs else broken_by_name x cs

abbrev pub broken_by_counterexamples : Option Identifier → List Command → Option ControlRule
broken_by_counterexamples None before = broken_by_print before
broken_by_counterexamples (Some f) before = broken_by_name f.name before

abbrev pub fault_at : Place → Option ControlRule → Option ControlFault
fault_at place broken = option_map (λ rule. record { rule = rule; place = place }) broken

-- the fault of a command, at its first word, by the commands before it
abbrev pub command_fault : System → List Command → Command → Option ControlFault
command_fault system before (Run place name run) = fault_at place (broken_by_run system run)
command_fault system before (Check place) = None
command_fault system before (PrintResults place) = fault_at place (broken_by_print before)
command_fault system before (PrintCounterexamples place f paths) = fault_at place (broken_by_counterexamples f before)

-- the first fault of commands behind others
unfoldable pub first_fault : System → List Command → List Command → Option ControlFault
first_fault system before [] = None
first_fault system before (c ∷ cs) = option_or (command_fault system before c) (first_fault system (before ++ (c ∷ [])) cs)

-- the first fault of main's commands, in their order
abbrev pub control_fault : System → Option ControlFault
control_fault system = first_fault system [] (commands_of system)

-- No rule on control blocks is broken.
abbrev pub KeepsControl : System → Type 0
KeepsControl system = control_fault system ≡ None

abbrev pub IsFirstControlFault : System → ControlFault → Type 0
IsFirstControlFault system fault = control_fault system ≡ Some fault
