use Rattle.std.proofs.Common.{[]}
use Rattle.uc_syntax.specs.WrittenTypes.{enums_of_module}
use Rattle.uc_syntax.proofs.Added.{AddedUpTo}
use Rattle.uc_type_names.specs.Lent.{meant}
use Rattle.uc_names.proofs.design.all_enums.Given as goal

abbrev pub invariant-loop-module : goal.invariant-loop-module
invariant-loop-module l = AddedUpTo enums_of_module l.modules [] l.module-index (meant l.enums)
