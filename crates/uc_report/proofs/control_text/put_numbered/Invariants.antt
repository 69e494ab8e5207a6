use Rattle.std.proofs.Common.{◌≡◌, ◌++◌, take}
use Rattle.std.specs.List.{flat_map}
use Rattle.uc_report.specs.Described.{described}
use Rattle.uc_report.specs.ControlText.{numbered_text}
use Rattle.uc_report.proofs.control_text.put_numbered.Given as goal

abbrev pub invariant-loop-number : goal.invariant-loop-number
invariant-loop-number l = l.out.items ≡ l.initial.out.items ++ flat_map (numbered_text (described l.d) l.lines l.paths) (take l.number-index l.numbers)
