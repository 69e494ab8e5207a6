use Rattle.std.proofs.Common.{[]}
use Rattle.uc_syntax.proofs.Added.{AddedUpTo}
use Rattle.uc_layout.specs.InstancesSymbols.{constants_at}
use Rattle.uc_layout.proofs.instances_symbols.constant_types.Given as goal

abbrev pub invariant-loop-code : goal.invariant-loop-code
invariant-loop-code l = AddedUpTo (λ m. constants_at l.tables m.now) l.code-items [] l.code-index l.types
