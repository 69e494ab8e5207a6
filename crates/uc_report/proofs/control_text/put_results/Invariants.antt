use Rattle.std.proofs.Common.{◌≡◌, ◌++◌, take}
use Rattle.std.specs.List.{flat_map}
use Rattle.uc_report.specs.Described.{described}
use Rattle.uc_report.specs.ControlText.{line_text}
use Rattle.uc_report.proofs.control_text.put_results.Given as goal

abbrev pub invariant-loop-line : goal.invariant-loop-line
invariant-loop-line l = l.out.items ≡ l.initial.out.items ++ flat_map (line_text (described l.d)) (take l.line-index l.lines)
