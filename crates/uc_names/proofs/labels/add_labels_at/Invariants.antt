use Rattle.std.proofs.Common.{List}
use Rattle.uc_syntax.specs.declared.declaration.Module.{Module}
use Rattle.uc_rules.specs.Names.{name_at}
use Rattle.uc_names.specs.Senses.{entries_meant}
use Rattle.uc_names.proofs.Turns.{LabelsFrom}
use Rattle.uc_names.proofs.labels.add_labels_at.Given as goal

abbrev pub invariant-loop-place : goal.invariant-loop-place
invariant-loop-place l =
    (ms : List Module) → LabelsFrom l.enum_number (λ i. name_at l.at i.name) l.labels (entries_meant ms l.initial.entries) (entries_meant ms l.entries) l.place
