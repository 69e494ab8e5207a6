use Rattle.std.proofs.Common.{◌≡◌, nat_eq, drop}
use Rattle.std.specs.List.{find}
use Rattle.uc_rules.proofs.selection.field_there.Given as goal

abbrev pub invariant-loop-field : goal.invariant-loop-field
invariant-loop-field l = find (λ d. nat_eq l.name d.name) (drop l.field-index l.fields) ≡ find (λ d. nat_eq l.name d.name) l.fields
