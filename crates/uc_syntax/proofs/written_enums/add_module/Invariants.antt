use Rattle.uc_syntax.specs.Labels.{decl_labels}
use Rattle.uc_syntax.proofs.Added.{AddedUpTo}
use Rattle.uc_syntax.proofs.written_enums.add_module.Given as goal

abbrev pub invariant-loop-declaration : goal.invariant-loop-declaration
invariant-loop-declaration l = AddedUpTo decl_labels l.declaration-items l.initial.enums l.declaration-index l.enums
