use Rattle.std.proofs.Common.{◌≡◌, drop}
use Rattle.std.specs.Prelude.{nat_eq}
use Rattle.std.specs.List.{position_from}
use Rattle.uc_type_reader.proofs.labels.position.Given as goal

abbrev pub invariant-loop-place : goal.invariant-loop-place
invariant-loop-place l = position_from (nat_eq l.name) l.place (drop l.place l.names) ≡ position_from (nat_eq l.name) 0 l.names
