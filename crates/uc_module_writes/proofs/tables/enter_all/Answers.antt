use Rattle.uc_module_writes.specs.Stepped.{summary_by}
use Rattle.uc_module_writes.proofs.Entered.{from_begin, from_end, from_more}
use Rattle.uc_module_writes.proofs.tables.enter_all.Goals as goal

pub loop-declaration-init : goal.loop-declaration-init
loop-declaration-init c = from_begin c.args.names.now (summary_by c.args.places.now c.args.summaries.now) c.args.declarations.now c.args.effects.now c.args.table.now

pub loop-declaration-preserved : goal.loop-declaration-preserved
loop-declaration-preserved c =
    from_more c.args.names.now (summary_by c.args.places.now c.args.summaries.now) c.args.declarations.now c.args.effects.now c.args.table.now _ _ _ _ _ c.declaration-item.result _ c.loop-declaration.invariant
    c.loop-declaration-test.true c.declaration-item.is c.in_ok-enter_declaration.ensures

pub returns : goal.returns
returns c = from_end c.args.names.now (summary_by c.args.places.now c.args.summaries.now) c.args.declarations.now c.args.effects.now c.args.table.now _ _ _ c.loop-declaration.invariant c.loop-declaration-test.false
