use Rattle.std.proofs.Common.{◌≡◌, ◌++◌, take}
use Rattle.std.specs.List.{flat_map}
use Rattle.uc_report.specs.Described.{described}
use Rattle.uc_report.specs.TraceText.{cell_text}
use Rattle.uc_report.proofs.trace_text.put_cells.Given as goal

abbrev pub invariant-loop-cell : goal.invariant-loop-cell
invariant-loop-cell l = l.out.items ≡ l.initial.out.items ++ flat_map (cell_text (described l.d) l.state) (take l.cell-index l.cells)
