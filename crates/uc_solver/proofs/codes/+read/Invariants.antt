use Rattle.std.proofs.Common.{take, drop}
use Rattle.uc_values.specs.Types.{field_types}
use Rattle.uc_solver.specs.Codes.{ReadsAll}
use Rattle.uc_solver.proofs.codes.+read.Given as goal

abbrev pub invariant-read_fields-loop-field : goal.invariant-read_fields-loop-field
invariant-read_fields-loop-field l = ReadsAll (field_types (take l.field-index l.fields)) (drop l.initial.next l.codes) l.parts.items (drop l.next l.codes)
