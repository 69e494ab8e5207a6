use Rattle.uc_written_once.proofs.Single.{FieldsFrom}
use Rattle.uc_written_once.proofs.noting.add_fields.Given as goal

abbrev pub invariant-loop-selected : goal.invariant-loop-selected
invariant-loop-selected l = FieldsFrom l.parts l.fn.part l.selected-index l.part
