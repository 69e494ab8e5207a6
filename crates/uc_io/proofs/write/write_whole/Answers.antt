use Rattle.std.proofs.Common.{◌∙◌, arith, append_assoc, length-drop, take-add}
use Rattle.std.proofs.lemmas.List.{take_rest}
use Rattle.uc_io.proofs.write.write_whole.Goals as goal

-- what this write took comes behind what the earlier ones took
pub loop-written-preserved : goal.loop-written-preserved
loop-written-preserved g c =
    let within = rw (take_rest, length-drop) at c.in-Ok.ensures.within in
    record {
      within = omega arith;
      grown = λ told.
          let before = c.loop-written.invariant.grown told in
          let piece = rw take_rest at (c.in-Ok.ensures.front (rw c.loop-written.invariant.telling told)) in
          rw (piece, before, take-add, append_assoc);
      no_fault = c.in-Ok.ensures.no_fault (omega arith) ∙ c.loop-written.invariant.no_fault;
      telling = cc;
    }
