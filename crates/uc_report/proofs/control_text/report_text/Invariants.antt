use Rattle.std.proofs.Common.{◌≡◌, take}
use Rattle.std.specs.List.{flat_map}
use Rattle.uc_report.specs.Described.{described}
use Rattle.uc_report.specs.ControlText.{print_text}
use Rattle.uc_report.proofs.control_text.report_text.Given as goal

abbrev pub invariant-loop-print : goal.invariant-loop-print
invariant-loop-print l = l.text.items ≡ flat_map (print_text (described l.d.view) l.report.lines) (take l.print-index l.print-items)
