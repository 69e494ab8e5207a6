use Rattle.std.proofs.Common.{◌≡◌, take}
use Rattle.uc_ops.specs.Typing.{types_at}
use Rattle.uc_terms_table.proofs.Symbols.{AllIn}
use Rattle.uc_terms_table.proofs.building.symbols.Given as goal

abbrev pub invariant-loop-place : goal.invariant-loop-place
invariant-loop-place l = record {
  there : AllIn l.terms l.symbols.items;
  types : types_at l.terms l.symbols.items ≡ take l.place l.types;
}
