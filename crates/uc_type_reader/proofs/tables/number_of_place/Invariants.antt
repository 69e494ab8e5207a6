use Rattle.std.proofs.Common.{◌≡◌, drop}
use Rattle.std.specs.List.{position_from}
use Rattle.uc_meaning.specs.Lookup.{same_place}
use Rattle.uc_type_reader.proofs.tables.number_of_place.Given as goal

abbrev pub invariant-loop-number : goal.invariant-loop-number
invariant-loop-number l = position_from (λ w. same_place l.place w.place) l.number (drop l.number l.enums) ≡ position_from (λ w. same_place l.place w.place) 0 l.enums
