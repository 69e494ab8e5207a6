use Rattle.std.proofs.Common.{◌≡◌, drop}
use Rattle.uc_meaning.specs.Lookup.{module_from, module_at}
use Rattle.uc_report.specs.Described.{described}
use Rattle.uc_report.proofs.design.DesignView.module_at.Given as goal

abbrev pub invariant-loop-name : goal.invariant-loop-name
invariant-loop-name l =
    module_from (described l.self) l.here (drop l.name-index l.path) ≡ module_at (described l.self) l.path
