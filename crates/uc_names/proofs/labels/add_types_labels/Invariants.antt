use Rattle.uc_syntax.proofs.Added.{AddedUpTo}
use Rattle.uc_rules.specs.Names.{labels_in}
use Rattle.uc_names.specs.Senses.{entries_meant}
use Rattle.uc_names.proofs.labels.add_types_labels.Given as goal

abbrev pub invariant-loop-ty : goal.invariant-loop-ty
invariant-loop-ty l =
    AddedUpTo (λ t. labels_in l.design t.now) l.types (entries_meant l.design.modules l.initial.entries) l.ty-index (entries_meant l.design.modules l.entries)
