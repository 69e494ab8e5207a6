use Rattle.std.proofs.Common.{◌∙◌, arith}
use Rattle.uc_io.proofs.Handing.{held_here}
use Rattle.uc_io.proofs.mem_texts.first_named.Goals as goal

pub returns-then-eq : goal.returns-then-eq
returns-then-eq c =
    c.loop-number.invariant ∙ held_here c.args.files.now c.args.name.now c.loop-number.number c.index-files-number.result (omega arith) c.index-files-number.is cc
