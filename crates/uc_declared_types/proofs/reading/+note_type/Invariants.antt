use Rattle.uc_names.specs.Senses.{module_in}
use Rattle.uc_declared_types.proofs.Arms.{FieldsUpTo}
use Rattle.uc_declared_types.proofs.reading.+note_type.Given as goal

abbrev pub invariant-note_fields-loop-parameter : goal.invariant-note_fields-loop-parameter
invariant-note_fields-loop-parameter l = FieldsUpTo l.homes l.aliases (module_in l.homes.modules l.home) l.parameters l.fn.first l.parameter-index l.fields l.first
