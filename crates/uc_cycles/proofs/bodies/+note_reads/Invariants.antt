use Rattle.std.proofs.Common.{take}
use Rattle.std.specs.List.{list_any}
use Rattle.uc_names.specs.Senses.{module_in}
use Rattle.uc_rules.specs.Reads.{reads_by}
use Rattle.uc_cycles.specs.Found.{Adds, branch_by, selection_by}
use Rattle.uc_cycles.proofs.bodies.+note_reads.Given as goal

abbrev pub invariant-note_operands-loop-operand : goal.invariant-note_operands-loop-operand
invariant-note_operands-loop-operand l = Adds l.fn.found l.found (λ by. list_any (λ e. reads_by l.homes (module_in l.homes.modules l.home) l.bound by e) (take l.operand-index l.operands))

abbrev pub invariant-note_branches-loop-branch : goal.invariant-note_branches-loop-branch
invariant-note_branches-loop-branch l = Adds l.fn.found l.found (λ by. list_any (branch_by (λ e. reads_by l.homes (module_in l.homes.modules l.home) l.bound by e)) (take l.branch-index l.branches))

abbrev pub invariant-note_selections-loop-selection : goal.invariant-note_selections-loop-selection
invariant-note_selections-loop-selection l = Adds l.fn.found l.found (λ by. list_any (selection_by (λ e. reads_by l.homes (module_in l.homes.modules l.home) l.bound by e)) (take l.selection-index l.selections))
