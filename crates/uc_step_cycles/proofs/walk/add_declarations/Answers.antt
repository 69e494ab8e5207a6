use Rattle.uc_step_cycles.proofs.WritingStatementsAdding.{nexts_begin, nexts_end, nexts_more}
use Rattle.uc_step_cycles.proofs.walk.add_declarations.Goals as goal

pub loop-declaration-init : goal.loop-declaration-init
loop-declaration-init c = nexts_begin _ _ _

pub loop-declaration-preserved : goal.loop-declaration-preserved
loop-declaration-preserved c =
    nexts_more _ _ _ _ _ _ c.declaration-item.result _ _ c.loop-declaration.invariant c.loop-declaration-test.true c.declaration-item.is c.next_in.ensures c.in_ok-add_code.ensures

pub returns : goal.returns
returns c = nexts_end _ _ _ _ _ c.loop-declaration.invariant c.loop-declaration-test.false
