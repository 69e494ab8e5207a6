use Rattle.std.proofs.Common.{◌<◌, ◌≤◌, ℕ, All, take}
use Rattle.uc_terms.proofs.marks.span.Given as goal

abbrev pub invariant-loop-root : goal.invariant-loop-root
invariant-loop-root l = record {
  above : All (λ t. t < l.above) (take l.root-index l.roots);
  least : (n : ℕ) → All (λ t. t < n) l.roots → l.above ≤ n;
}
