use Rattle.uc_syntax.proofs.Added.{AddedUpTo}
use Rattle.uc_rules.specs.Names.{labels_in}
use Rattle.uc_names.specs.Senses.{entries_meant}
use Rattle.uc_names.proofs.labels.+add_type_labels.Given as goal

abbrev pub invariant-add_field_labels-loop-field : goal.invariant-add_field_labels-loop-field
invariant-add_field_labels-loop-field l =
    AddedUpTo (λ p. labels_in l.design p.ty) l.fields (entries_meant l.design.modules l.initial.entries) l.field-index (entries_meant l.design.modules l.entries)
