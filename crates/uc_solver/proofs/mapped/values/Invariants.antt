use Rattle.std.proofs.Common.{ℕ, ◌≡◌, ◌<◌, length, get_or, []}
use Rattle.uc_ops.specs.Typing.{type_at}
use Rattle.uc_ops.specs.Meaning.{part}
use Rattle.uc_lower.specs.Lowering.{IsSymbol}
use Rattle.uc_solver.specs.Codes.{IsReadFrom}
use Rattle.uc_solver.proofs.mapped.values.Given as goal

abbrev pub invariant-loop-place : goal.invariant-loop-place
invariant-loop-place l = record {
  long : length l.values.items ≡ l.place;
  each : (k : ℕ) → k < l.place → IsSymbol l.terms k → IsReadFrom (type_at l.terms k) (get_or l.codes k []) (part l.values.items k);
}
