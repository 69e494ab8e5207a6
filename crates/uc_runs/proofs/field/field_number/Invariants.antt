use Rattle.std.proofs.Common.{◌≡◌, drop, nat_eq}
use Rattle.std.specs.List.{position_from}
use Rattle.uc_runs.proofs.field.field_number.Given as goal

abbrev pub invariant-loop-place : goal.invariant-loop-place
invariant-loop-place l = position_from (λ d. nat_eq d.name l.name) l.place (drop l.place l.fields) ≡ position_from (λ d. nat_eq d.name l.name) 0 l.fields
