use Rattle.std.proofs.Common.{List, [], ◌∷◌}
use Rattle.uc_syntax.specs.declared.declaration.Module.{Module}
use Rattle.uc_syntax.proofs.Added.{AddedUpTo}
use Rattle.uc_rules.specs.Names.{enters, SenseVariable}
use Rattle.uc_names.specs.Senses.{entries_meant}
use Rattle.uc_names.proofs.entries.add_variables.Given as goal

abbrev pub invariant-loop-identifier : goal.invariant-loop-identifier
invariant-loop-identifier l =
    (ms : List Module) → AddedUpTo (λ i. enters i (SenseVariable l.variable.kind l.variable.ty.now) ∷ []) l.identifiers (entries_meant ms l.initial.entries) l.identifier-index (entries_meant ms l.entries)
