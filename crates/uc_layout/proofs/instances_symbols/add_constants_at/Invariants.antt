use Rattle.uc_syntax.proofs.Added.{AddedUpTo}
use Rattle.uc_layout.specs.InstancesSymbols.{constants_typed}
use Rattle.uc_layout.proofs.instances_symbols.add_constants_at.Given as goal

abbrev pub invariant-loop-decl : goal.invariant-loop-decl
invariant-loop-decl l = AddedUpTo (constants_typed l.tables l.code) l.decl-items l.initial.types l.decl-index l.types
