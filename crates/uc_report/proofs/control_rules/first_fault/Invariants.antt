use Rattle.std.proofs.Common.{◌≡◌, take}
use Rattle.std.specs.List.{list_any, flat_map}
use Rattle.uc_meaning.specs.Lines.{commands_in, is_check}
use Rattle.uc_report.specs.Described.{described}
use Rattle.uc_report.proofs.ControlForms.{AreWalked}
use Rattle.uc_report.proofs.control_rules.first_fault.Given as goal

abbrev pub invariant-loop-place : goal.invariant-loop-place
invariant-loop-place l = AreWalked (described l.d) l.decls l.place × (l.checked ≡ list_any is_check (flat_map commands_in (take l.place l.decls)))
