use Rattle.uc_written_once.proofs.SteppedOnceTurns.{decls_begin, decls_end, decls_more}
use Rattle.uc_written_once.proofs.stepping.note_in_declarations.Goals as goal

pub loop-declaration-init : goal.loop-declaration-init
loop-declaration-init c = decls_begin _ _ _

pub loop-declaration-preserved : goal.loop-declaration-preserved
loop-declaration-preserved c =
    decls_more _ _ _ _ _ _ _ _ c.declaration-item.result _ _ c.loop-declaration.invariant c.loop-declaration-test.true c.declaration-item.is c.next_in.ensures c.in_ok-note_in_block.ensures.seen c.in_ok-note_in_block.ensures.faults

pub returns : goal.returns
returns c = decls_end _ _ _ _ _ _ c.loop-declaration.invariant c.loop-declaration-test.false
