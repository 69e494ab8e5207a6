use Rattle.std.proofs.Common.{◌≤◌, ◌-◌, List, ℕ, length}
use Rattle.uc_lexer.specs.Gap.{Skips}
use Rattle.uc_lexer.specs.Ahead.{IsPosition, from}
use Rattle.uc_lexer.proofs.gap.skip_gap.Given as goal

abbrev pub invariant-steps : goal.invariant-steps
invariant-steps l = record {
  position : IsPosition l.text l.here;
  further : l.fn.start.at ≤ l.here.at;
  skips : (rest : List ℕ) → Skips (from l.text l.here) rest → Skips (from l.text l.fn.start) rest;
}

abbrev pub decreases-steps : goal.decreases-steps
decreases-steps l = length l.text - l.here.at
