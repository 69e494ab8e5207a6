use Rattle.std.proofs.Common.{◌≡◌, drop}
use Rattle.std.specs.List.{position_from}
use Rattle.uc_meaning.specs.Cells.{is_symbol}
use Rattle.uc_layout.specs.Symbols.{symbol_meant}
use Rattle.uc_layout.proofs.symbols.place_of.Given as goal

abbrev pub invariant-loop-place : goal.invariant-loop-place
invariant-loop-place l =
    position_from (λ s. is_symbol l.code l.name (symbol_meant s)) l.place (drop l.place l.symbols) ≡ position_from (λ s. is_symbol l.code l.name (symbol_meant s)) 0 l.symbols
