use Rattle.std.proofs.Common.{take}
use Rattle.std.specs.List.{list_any}
use Rattle.uc_step_cycles.specs.Cells.{Enters, declares_cell}
use Rattle.uc_step_cycles.proofs.own.own_cells.Given as goal

abbrev pub invariant-loop-declaration : goal.invariant-loop-declaration
invariant-loop-declaration l = Enters l.node l.fn.cells (λ x. list_any (declares_cell l.is_root l.bound x) (take l.declaration-index l.declarations)) l.own l.cells
