use Rattle.uc_syntax.proofs.Added.{AddedUpTo}
use Rattle.uc_layout.specs.Symbols.{symbol_of_name}
use Rattle.uc_layout.proofs.symbols.add_names.Given as goal

abbrev pub invariant-loop-identifier : goal.invariant-loop-identifier
invariant-loop-identifier l = AddedUpTo (symbol_of_name l.code) l.names l.initial.symbols l.identifier-index l.symbols
