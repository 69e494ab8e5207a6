use Rattle.std.proofs.Common.{◌≡◌, ◌+◌, ◌*◌, map, take}
use Rattle.std.specs.Option.{option_copied}
use Rattle.uc_type_reader.specs.Reading.{field_above, cost_through, cost_above, costs_above, cost_in_home}
use Rattle.uc_type_reader.proofs.types.+type_above.Given as goal

abbrev pub decreases-type_above : goal.decreases-type_above
decreases-type_above l = 3 * cost_above l.below l.tables.now l.code.now l.ty.now

abbrev pub decreases-fields_above : goal.decreases-fields_above
decreases-fields_above l = 3 * costs_above l.below l.tables.now l.code.now l.parameters.now + 1

abbrev pub decreases-type_in_home : goal.decreases-type_in_home
decreases-type_in_home l = 3 * cost_in_home (cost_through l.below l.tables.now) (option_copied l.home) l.name + 1

abbrev pub invariant-fields_above-loop-parameter : goal.invariant-fields_above-loop-parameter
invariant-fields_above-loop-parameter l = l.fields ≡ map (field_above l.below l.tables l.code) (take l.parameter-index l.parameters)
