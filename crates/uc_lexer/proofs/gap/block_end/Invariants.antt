use Rattle.std.proofs.Common.{◌≤◌, ◌-◌, length}
use Rattle.uc_lexer.specs.Ahead.{IsPosition}
use Rattle.uc_lexer.proofs.Steps.{Keeps}
use Rattle.uc_lexer.proofs.gap.block_end.Given as goal

abbrev pub invariant-bytes : goal.invariant-bytes
invariant-bytes l = record {
  position : IsPosition l.text l.here;
  further : l.fn.start.at ≤ l.here.at;
  keeps : Keeps l.text l.fn.start l.here;
}

abbrev pub decreases-bytes : goal.decreases-bytes
decreases-bytes l = length l.text - l.here.at
