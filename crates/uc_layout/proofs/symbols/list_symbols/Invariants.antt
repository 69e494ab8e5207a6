use Rattle.std.proofs.Common.{[]}
use Rattle.uc_syntax.proofs.Added.{AddedUpTo}
use Rattle.uc_layout.specs.Symbols.{symbols_at}
use Rattle.uc_layout.proofs.symbols.list_symbols.Given as goal

abbrev pub invariant-loop-code : goal.invariant-loop-code
invariant-loop-code l = AddedUpTo (symbols_at l.kind l.codes) l.modules [] l.code-index l.symbols
