use Rattle.std.proofs.Common.{◌≡◌, true, false, map, ap, rules}
use Rattle.uc_order_rules.specs.Sizes.{total}
use Rattle.uc_uses.specs.Counting.{cell_count}
use Rattle.uc_uses.proofs.Counting.{counted_begin, counted_more, counted_stop, counts_same}
use Rattle.uc_uses.proofs.InstanceCountsWalks.{decls_are}
use Rattle.uc_uses.proofs.cells.count_cells.Goals as goal

pub loop-declaration-init : goal.loop-declaration-init
loop-declaration-init c s here place = counted_begin _ _ _ _

pub returns-then-not-count_declared : goal.returns-then-not-count_declared
returns-then-not-count_declared c s here place =
    let miss : c.count_declared.result ≡ false = search rules in
    counts_same _ _ _ _ _ _
    (counted_stop (cell_count s here) c.as_slice-declaration-items.result.now _ _ _ _ _ _ c.declaration-item.result _ _ (c.loop-declaration.invariant s here place) c.loop-declaration-test.true c.declaration-item.is miss
    (c.count_declared.ensures s here place))
    (ap (λ ds. total (map (cell_count s here) ds)) (decls_are c.args.place here _ place c.as_slice-declaration-items.ensures))

pub loop-declaration-preserved : goal.loop-declaration-preserved
loop-declaration-preserved c s here place =
    let hit : c.count_declared.result ≡ true = search rules in
    counted_more (cell_count s here) c.as_slice-declaration-items.result.now _ _ _ _ _ c.declaration-item.result _ _ (c.loop-declaration.invariant s here place) c.loop-declaration-test.true c.declaration-item.is hit
    (c.count_declared.ensures s here place)
