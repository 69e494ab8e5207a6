use Rattle.std.proofs.Common.{[]}
use Rattle.uc_syntax.proofs.Added.{AddedUpTo}
use Rattle.uc_declared_types.specs.Counts.{counts_in}
use Rattle.uc_declared_types.proofs.counts.label_counts.Given as goal

abbrev pub invariant-loop-module : goal.invariant-loop-module
invariant-loop-module l = AddedUpTo counts_in l.modules [] l.module-index l.counts
