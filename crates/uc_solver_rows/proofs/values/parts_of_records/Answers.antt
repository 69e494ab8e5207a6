use Rattle.std.proofs.Common.{arith, ap, length}
use Rattle.uc_values.specs.declared.value.Value.{Value}
use Rattle.uc_values.proofs.Fitting.{parts-Rec}
use Rattle.uc_solver_rows.proofs.values.parts_of_records.Goals as goal

pub with_field-requires : goal.with_field-requires
with_field-requires g c = omega (arith, ap (length {A = Value}) (parts-Rec c.in_ok-two_values.field-0), c.in_ok-two_values.ensures)

pub field-requires : goal.field-requires
field-requires g c = omega (arith, ap (length {A = Value}) (parts-Rec c.in_ok-two_values.field-0), c.in_ok-two_values.ensures)
