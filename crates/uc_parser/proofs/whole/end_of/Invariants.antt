use Rattle.std.proofs.Common.{◌≡◌, ◌≤◌, ◌+◌, take}
use Rattle.uc_lexer.specs.Places.{place_of}
use Rattle.uc_parser.proofs.whole.end_of.Given as goal

-- the place of the next byte
abbrev pub invariant-loop-byte : goal.invariant-loop-byte
invariant-loop-byte l = record {
  place : l.place ≡ place_of l.file l.text l.byte-index;
  line : l.place.line ≤ l.byte-index + 1;
  col : l.place.col ≤ l.byte-index + 1;
}
