use Rattle.uc_names.proofs.FirstEntries.{holds_begin, holds_end, holds_more}
use Rattle.uc_names.proofs.table.NameTable.of.Goals as goal

pub loop-entry-init : goal.loop-entry-init
loop-entry-init c = λ ms. holds_begin ms _ c.args.entries.now (c.new-table.ensures ms)

pub loop-entry-preserved : goal.loop-entry-preserved
loop-entry-preserved c =
    λ ms. holds_more ms _ c.args.entries.now c.loop-entry.entry-index c.entry-item.result c.entry-item.result c.loop-entry-test.true c.entry-item.is (c.in_ok-add.ensures ms _ (c.loop-entry.invariant ms))

pub returns : goal.returns
returns c = λ ms. holds_end ms c.loop-entry.table c.args.entries.now c.loop-entry.entry-index c.loop-entry-test.false (c.loop-entry.invariant ms)
