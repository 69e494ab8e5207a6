use Rattle.std.proofs.Common.{◌≡◌, drop}
use Rattle.std.specs.Prelude.{nat_eq, ◌&&◌}
use Rattle.std.specs.List.{position_from}
use Rattle.uc_type_reader.proofs.tables.number_of_type.Given as goal

abbrev pub invariant-loop-number : goal.invariant-loop-number
invariant-loop-number l =
    position_from (λ p. nat_eq p.0 l.code && nat_eq p.1 l.name) l.number (drop l.number l.types) ≡ position_from (λ p. nat_eq p.0 l.code && nat_eq p.1 l.name) 0 l.types
