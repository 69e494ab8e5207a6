use Rattle.std.proofs.Common.{arith}
use Rattle.uc_lexer.proofs.Steps.{blank_byte, blank_gap, feed_gap}
use Rattle.uc_lexer.proofs.gap.next_step.Goals as goal

pub returns-in-32 : goal.returns-in-32
returns-in-32 c =
    let byte = blank_byte _ c.in-32.is in
    rw c.along.ensures (blank_gap c.args.text.now c.args.here c.requires.position (omega arith) byte.0 byte.1)

pub returns-in-10 : goal.returns-in-10
returns-in-10 c = rw c.next_line.ensures (feed_gap c.args.text.now c.args.here c.requires.position (omega arith) c.in-10.is)
