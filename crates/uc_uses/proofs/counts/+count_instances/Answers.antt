use Rattle.std.proofs.Common.{◌≡◌, true, false, suc, ◌-◌, map, refl, sym, rules, arith}
use Rattle.uc_lookup.specs.Parts.{instance_parts, system_in}
use Rattle.uc_order_rules.specs.Sizes.{total}
use Rattle.uc_uses.specs.Counting.{own, own_inside}
use Rattle.uc_uses.proofs.Counting.{counted_begin, counted_more, counted_stop, counts_none, counts_stop, counts_two}
use Rattle.uc_uses.proofs.InstanceCountsWalks.{decls_are, inside_lost, inside_none, no_depth, own_more}
use Rattle.uc_uses.proofs.counts.+count_instances.Goals as goal

pub count_all_inside-loop-declaration-init : goal.count_all_inside-loop-declaration-init
count_all_inside-loop-declaration-init t c here = counted_begin _ _ _ _

pub count_all_inside-returns-then-not-count_inside : goal.count_all_inside-returns-then-not-count_inside
count_all_inside-returns-then-not-count_inside t c here =
    let miss : c.count_inside.result ≡ false = search rules in
    counted_stop (own_inside c.args.counted c.args.depth (system_in c.args.system.now) here) c.args.declarations.now _ _ _ _ _ _ c.declaration-item.result _ _ (c.loop-declaration.invariant here) c.loop-declaration-test.true c.declaration-item.is miss
    (c.count_inside.ensures here)

pub count_all_inside-loop-declaration-preserved : goal.count_all_inside-loop-declaration-preserved
count_all_inside-loop-declaration-preserved t c here =
    let hit : c.count_inside.result ≡ true = search rules in
    counted_more (own_inside c.args.counted c.args.depth (system_in c.args.system.now) here) c.args.declarations.now _ _ _ _ _ c.declaration-item.result _ _ (c.loop-declaration.invariant here) c.loop-declaration-test.true c.declaration-item.is hit
    (c.count_inside.ensures here)

pub count_inside-returns-in-None-module_named : goal.count_inside-returns-in-None-module_named
count_inside-returns-in-None-module_named t c here =
    counts_none _ _ _ (inside_lost c.args.counted c.args.depth (system_in c.args.system.now) here c.args.declaration.now (instance_parts c.in-Some.instance) c.in-Some.ensures c.in-None-module_named.ensures)

pub count_inside-returns-in-None : goal.count_inside-returns-in-None
count_inside-returns-in-None t c here = counts_none _ _ _ (inside_none c.args.counted c.args.depth (system_in c.args.system.now) here c.args.declaration.now c.in-None.ensures)

pub count_instances-returns-then-depth-eq0 : goal.count_instances-returns-then-depth-eq0
count_instances-returns-then-depth-eq0 t c here place = counts_none _ _ _ (no_depth _ _ _ _ c.if-depth-eq0.true)

pub count_instances-returns-then-not-count_own : goal.count_instances-returns-then-not-count_own
count_instances-returns-then-not-count_own t c here place =
    let some : c.args.depth ≡ suc (c.args.depth - 1) = omega (arith, c.if-depth-eq0.false) in
    let miss : c.count_own.result ≡ false = search rules in
    counts_stop _ _ _ _ _ (own c.args.counted (system_in c.args.system.now) here) (total (map (own_inside c.args.counted (c.args.depth - 1) (system_in c.args.system.now) here) here.code.decls)) _ miss (c.count_own.ensures (system_in c.args.system.now) here place)
    (own_more c.args.counted c.args.depth (c.args.depth - 1) (system_in c.args.system.now) here here.code.decls some refl)

pub count_instances-returns : goal.count_instances-returns
count_instances-returns t c here place =
    let some : c.args.depth ≡ suc (c.args.depth - 1) = omega (arith, c.if-depth-eq0.false) in
    let hit : c.count_own.result ≡ true = search rules in
    counts_two _ _ _ _ _ _ (own c.args.counted (system_in c.args.system.now) here) (total (map (own_inside c.args.counted (c.args.depth - 1) (system_in c.args.system.now) here) c.as_slice.result.now)) _ hit (c.count_own.ensures (system_in c.args.system.now) here place) (c.count_all_inside.ensures here)
    (own_more c.args.counted c.args.depth (c.args.depth - 1) (system_in c.args.system.now) here c.as_slice.result.now some (sym (decls_are c.args.place here _ place c.as_slice.ensures)))
