use Rattle.uc_meaning.specs.Lookup.{next_in}
use Rattle.uc_module_writes.specs.Found.{stretches}
use Rattle.uc_module_writes.proofs.Going.{block_as, declared_on, on_begin, on_end, on_more}
use Rattle.uc_module_writes.proofs.walk.find_in_declarations.Goals as goal

pub loop-declaration-init : goal.loop-declaration-init
loop-declaration-init c = λ steps finds. on_begin c.args.table.now.names.now (λ d. stretches c.args.effects.now steps (next_in d)) c.args.declarations.now c.args.all.now

pub loop-declaration-preserved : goal.loop-declaration-preserved
loop-declaration-preserved c =
    λ steps finds.
    on_more c.args.table.now.names.now (λ d. stretches c.args.effects.now steps (next_in d)) c.args.declarations.now c.args.all.now _ _ _ c.declaration-item.result _ (c.loop-declaration.invariant steps finds) c.loop-declaration-test.true
    c.declaration-item.is (block_as c.args.effects.now c.args.table.now _ _ _ _ c.next_block-block.ensures c.in_ok-find_in_block.ensures steps finds)

pub returns : goal.returns
returns c =
    λ steps finds.
    declared_on c.args.effects.now c.args.table.now c.args.declarations.now c.args.all.now _ steps
    (on_end c.args.table.now.names.now (λ d. stretches c.args.effects.now steps (next_in d)) c.args.declarations.now c.args.all.now _ _ (c.loop-declaration.invariant steps finds) c.loop-declaration-test.false)
