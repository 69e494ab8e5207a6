use Rattle.std.proofs.Common.{[]}
use Rattle.uc_syntax.specs.Labels.{module_labels}
use Rattle.uc_syntax.proofs.Added.{AddedUpTo}
use Rattle.uc_syntax.proofs.written_enums.labels_of.Given as goal

abbrev pub invariant-loop-module : goal.invariant-loop-module
invariant-loop-module l = AddedUpTo module_labels l.modules [] l.module-index l.enums
