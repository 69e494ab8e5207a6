use Rattle.std.proofs.Common.{◌≡◌, take, All}
use Rattle.uc_ops.specs.Typing.{types_at}
use Rattle.uc_solve_rows.specs.Low.{IsLow}
use Rattle.uc_solve_rows.proofs.low_terms.symbols.Given as goal

abbrev pub invariant-loop-place : goal.invariant-loop-place
invariant-loop-place l = record {
  low : All (IsLow l.terms) l.symbols.items;
  types : types_at l.terms l.symbols.items ≡ take l.place l.types;
}
