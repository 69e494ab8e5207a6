use Rattle.std.proofs.Common.{List}
use Rattle.uc_syntax.specs.declared.declaration.Module.{Module}
use Rattle.uc_names.specs.Senses.{entries_meant}
use Rattle.uc_names.proofs.Turns.{LabelsFrom}
use Rattle.uc_names.proofs.labels.add_labels.Given as goal

abbrev pub invariant-loop-place : goal.invariant-loop-place
invariant-loop-place l = (ms : List Module) → LabelsFrom l.enum_number (λ i. i) l.labels (entries_meant ms l.initial.entries) (entries_meant ms l.entries) l.place
