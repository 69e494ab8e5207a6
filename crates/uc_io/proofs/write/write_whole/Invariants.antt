use Rattle.std.proofs.Common.{◌≡◌, ◌-◌, ◌≤◌, ◌++◌, IsTrue, length, take}
use Rattle.uc_io.proofs.write.write_whole.Given as goal

-- so many of the bytes were taken
abbrev pub invariant-loop-written : goal.invariant-loop-written
invariant-loop-written g l = let sink = g.K.Sink in record {
  within : l.written ≤ length l.bytes;
  grown : IsTrue (sink.tells l.fn.sink) → sink.taken l.sink ≡ sink.taken l.fn.sink ++ take l.written l.bytes;
  no_fault : sink.faults l.sink ≡ sink.faults l.fn.sink;
  telling : sink.tells l.sink ≡ sink.tells l.fn.sink;
}

abbrev pub decreases-loop-written : goal.decreases-loop-written
decreases-loop-written g l = length l.bytes - l.written
