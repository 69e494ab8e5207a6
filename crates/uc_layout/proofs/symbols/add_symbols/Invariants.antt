use Rattle.uc_syntax.proofs.Added.{AddedUpTo}
use Rattle.uc_layout.specs.Symbols.{symbols_in}
use Rattle.uc_layout.proofs.symbols.add_symbols.Given as goal

abbrev pub invariant-loop-decl : goal.invariant-loop-decl
invariant-loop-decl l = AddedUpTo (symbols_in l.kind l.code) l.decls l.initial.symbols l.decl-index l.symbols
