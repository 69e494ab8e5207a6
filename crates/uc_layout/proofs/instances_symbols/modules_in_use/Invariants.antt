use Rattle.std.proofs.Common.{[], map}
use Rattle.uc_syntax.proofs.Added.{AddedUpTo}
use Rattle.uc_layout.specs.InstancesSymbols.{if_used}
use Rattle.uc_layout.proofs.instances_symbols.modules_in_use.Given as goal

abbrev pub invariant-loop-code : goal.invariant-loop-code
invariant-loop-code l = AddedUpTo (if_used l.used) l.design.modules.now [] l.code-index (map (λ m. m.now) l.modules)
