use Rattle.std.proofs.Common.{slice_get}
use Rattle.uc_io.proofs.Handing.{gives_from}
use Rattle.uc_io.specs.Memory.{bytes_of}
use Rattle.uc_io.proofs.mem_texts.MemTextsTexts.read.Goals as goal

-- the bytes at the place go into the buffer
pub returns-clause-gives : goal.returns-clause-gives
returns-clause-gives c =
    let place = c.in-Some.place in
    let calls = c.begin.new.self in
    let text = bytes_of (slice_get c.args.self.now.files.items place.file) in
    rw (c.in-Some.is, c.copy_from_slice.ensures.after, c.rest_of-left.ensures, c.deref.ensures.value)
    (gives_from text c.args.buffer.now place.position c.min-count.result calls.piece (cc) calls.hands_on)
