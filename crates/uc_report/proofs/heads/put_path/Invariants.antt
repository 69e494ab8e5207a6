use Rattle.std.proofs.Common.{◌≡◌, ◌++◌, take}
use Rattle.uc_report.specs.Described.{described}
use Rattle.uc_report.specs.HeadsText.{path_text}
use Rattle.uc_report.proofs.heads.put_path.Given as goal

abbrev pub invariant-loop-name : goal.invariant-loop-name
invariant-loop-name l = l.out.items ≡ l.initial.out.items ++ path_text (described l.d) (take l.name-index l.path)
