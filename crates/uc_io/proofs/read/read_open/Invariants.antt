use Rattle.std.proofs.Common.{◌≡◌, ◌-◌, ◌≤◌, ◌++◌, IsTrue, length}
use Rattle.uc_io.proofs.read.read_open.Given as goal

-- the bytes so far, and then what is left, are the text
abbrev pub invariant-pieces : goal.invariant-pieces
invariant-pieces g l = let texts = g.X.Texts in record {
  within : length l.bytes.items ≤ l.limit;
  room : length l.buffer ≡ 8192;
  bytes : IsTrue (texts.tells l.fn.texts) → texts.left l.fn.texts ≡ l.bytes.items ++ texts.left l.texts;
  no_fault : texts.faults l.texts ≡ texts.faults l.fn.texts;
  telling : texts.tells l.texts ≡ texts.tells l.fn.texts;
  holding : texts.held l.texts ≡ texts.held l.fn.texts;
}

abbrev pub decreases-pieces : goal.decreases-pieces
decreases-pieces g l = l.limit - length l.bytes.items
