use Rattle.std.proofs.Common.{◌≡◌, true, false, refl, rules}
use Rattle.uc_uses.specs.Counting.{one_cell}
use Rattle.uc_uses.proofs.Counting.{counted_begin, counted_more, counted_stop}
use Rattle.uc_uses.proofs.cells.count_names.Goals as goal

pub loop-identifier-init : goal.loop-identifier-init
loop-identifier-init c here place = counted_begin _ _ _ _

pub returns-then-not-count_name : goal.returns-then-not-count_name
returns-then-not-count_name c here place =
    let miss : c.count_name.result ≡ false = search rules in
    counted_stop (one_cell here c.args.kind) c.args.names.now _ _ _ _ _ _ _ _ _ (c.loop-identifier.invariant here place) c.loop-identifier-test.true refl miss (c.count_name.ensures here place)

pub loop-identifier-preserved : goal.loop-identifier-preserved
loop-identifier-preserved c here place =
    let hit : c.count_name.result ≡ true = search rules in
    counted_more (one_cell here c.args.kind) c.args.names.now _ _ _ _ _ _ _ _ (c.loop-identifier.invariant here place) c.loop-identifier-test.true refl hit (c.count_name.ensures here place)
